use Rattle.std.proofs.Common.{arith}
use Rattle.spi_message.proofs.plain.are_plain_atoms.Goals as goal

pub loop-place-init : goal.loop-place-init
loop-place-init c = record { seen = λ i a l e. absurd (omega arith) }
