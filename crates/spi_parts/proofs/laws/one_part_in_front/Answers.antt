use Rattle.spi_parts.proofs.Alone.{types_split, messages_split, declarations_split}
use Rattle.spi_parts.proofs.Processes.{processes_split}
use Rattle.spi_parts.proofs.laws.one_part_in_front.Goals as goal

pub returns : goal.returns
returns c = λ later. (types_split later, messages_split later, declarations_split later, processes_split later)
