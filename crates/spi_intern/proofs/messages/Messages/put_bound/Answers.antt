use Rattle.spi_intern.specs.Messages.{says_bound}
use Rattle.spi_intern.proofs.messages.Messages.put_bound.Goals as goal

pub put_part-requires : goal.put_part-requires
put_part-requires c = says_bound
