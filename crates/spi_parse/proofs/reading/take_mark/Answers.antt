use Rattle.std.proofs.Common.{arith}
use Rattle.std.proofs.lemmas.Grind.{common_steps}
use Rattle.spi_parse.proofs.Readers.{read_is_step}
use Rattle.spi_parse.proofs.reading.take_mark.Goals as goal

pub returns-in_err-accept : goal.returns-in_err-accept
returns-in_err-accept c = rw read_is_step (grind (arith, common_steps))
