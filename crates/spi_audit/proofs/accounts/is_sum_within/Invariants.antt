use Rattle.spi_count.specs.Sums.{sum_keys}
use Rattle.spi_audit.proofs.Within.{IsTakenOut}
use Rattle.spi_audit.proofs.accounts.is_sum_within.Given as goal

abbrev pub invariant-loop-kind : goal.invariant-loop-kind
invariant-loop-kind l = IsTakenOut l.fn.a l.b l.rest

abbrev pub decreases-loop-kind : goal.decreases-loop-kind
decreases-loop-kind l = sum_keys l.rest
