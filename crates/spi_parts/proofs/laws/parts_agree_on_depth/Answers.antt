use Rattle.spi_parts.proofs.Alone.{types_agree, messages_agree, declarations_agree}
use Rattle.spi_parts.proofs.Processes.{processes_agree}
use Rattle.spi_parts.proofs.laws.parts_agree_on_depth.Goals as goal

pub returns : goal.returns
returns c = λ later. (types_agree later, messages_agree later, declarations_agree later, processes_agree later)
