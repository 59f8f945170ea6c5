use Rattle.std.proofs.Common.{map}
use Rattle.spi_run.specs.View.{event}
use Rattle.spi_trace.specs.Next.{IsPaidAs}
use Rattle.spi_trace.proofs.Prefixes.{EachBelow}
use Rattle.spi_trace.proofs.paid.are_paid.Given as goal

abbrev pub invariant-loop-place : goal.invariant-loop-place
invariant-loop-place l = EachBelow (IsPaidAs l.ends) (map event l.events) l.place
