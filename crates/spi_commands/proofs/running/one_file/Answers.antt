use Rattle.spi_commands.proofs.FileFacts.{one_spelled}
use Rattle.spi_commands.proofs.running.one_file.Goals as goal

pub returns : goal.returns
returns c = one_spelled c.one_answer.ensures.one c.one_placed_tree.ensures c.one_or_other.ensures.one_file
