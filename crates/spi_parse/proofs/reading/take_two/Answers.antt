use Rattle.std.proofs.Common.{arith}
use Rattle.std.proofs.lemmas.Grind.{common_steps}
use Rattle.spi_parse.proofs.Readers.{read_is_step}
use Rattle.spi_parse.proofs.reading.take_two.Goals as goal

pub returns-in_default : goal.returns-in_default
returns-in_default c = rw read_is_step (grind (arith, common_steps))

pub returns-in_err-accept-in-Number : goal.returns-in_err-accept-in-Number
returns-in_err-accept-in-Number c = rw read_is_step (grind (arith, common_steps))
