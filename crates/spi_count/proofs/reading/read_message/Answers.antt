use Rattle.spi_count.proofs.Read.{read_there}
use Rattle.spi_count.proofs.reading.read_message.Goals as goal

pub returns : goal.returns
returns c = read_there c.args.store.now.messages c.args.id c.requires c.message_of.result c.message_of.ensures
