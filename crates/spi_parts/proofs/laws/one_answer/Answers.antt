use Rattle.spi_parts.proofs.Whole.{one_file_answer}
use Rattle.spi_parts.proofs.laws.one_answer.Goals as goal

pub returns : goal.returns
returns c = λ a b ts ha hb. one_file_answer a b ts ha hb
