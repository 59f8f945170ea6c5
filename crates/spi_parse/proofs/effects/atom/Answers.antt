use Rattle.std.proofs.Common.{arith}
use Rattle.std.proofs.lemmas.Grind.{common_steps}
use Rattle.spi_parse.proofs.Readers.{read_is_step}
use Rattle.spi_parse.proofs.effects.atom.Goals as goal

pub returns-in_err-fits-in-Reserved-End : goal.returns-in_err-fits-in-Reserved-End
returns-in_err-fits-in-Reserved-End c = rw read_is_step (grind (arith, common_steps))

pub returns-in_err-fits-in-Reserved-Check : goal.returns-in_err-fits-in-Reserved-Check
returns-in_err-fits-in-Reserved-Check c = rw read_is_step (grind (arith, common_steps))

pub returns-in_err-accept-in-Reserved-Many : goal.returns-in_err-accept-in-Reserved-Many
returns-in_err-accept-in-Reserved-Many c = rw read_is_step (grind (arith, common_steps))

pub returns-in_err-fits-in-Reserved-Many : goal.returns-in_err-fits-in-Reserved-Many
returns-in_err-fits-in-Reserved-Many c = rw read_is_step (grind (arith, common_steps))

pub returns-in_default : goal.returns-in_default
returns-in_default c = rw read_is_step (grind (arith, common_steps))
