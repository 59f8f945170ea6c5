use Rattle.spi_parts.proofs.Placed.{types_answer, messages_answer, declarations_answer, processes_answer}
use Rattle.spi_parts.proofs.laws.one_part_answer.Goals as goal

pub returns : goal.returns
returns c = λ later. (types_answer later, messages_answer later, declarations_answer later, processes_answer later)
