use Rattle.spi_infer.proofs.Deriving.{least_or_none, blocked}
use Rattle.spi_infer.proofs.laws.least_or_blocked.Goals as goal

pub returns-clause-some : goal.returns-clause-some
returns-clause-some c = least_or_none

pub returns-clause-blocked : goal.returns-clause-blocked
returns-clause-blocked c = blocked
