use Rattle.spi_commands.proofs.FileRefusals.{refused_none}
use Rattle.spi_commands.proofs.running.refused_is_none.Goals as goal

pub returns : goal.returns
returns c = λ bytes number offset shown h. refused_none c.one_answer.ensures.one c.one_placed_tree.ensures c.one_or_other.ensures.never_both h
