use Rattle.std.proofs.Common.{◌≡◌, ◌≤◌, map, take}
use Rattle.spi_term.specs.View.{message}
use Rattle.spi_run.specs.Safety.{begins_of}
use Rattle.spi_run.specs.View.{event}
use Rattle.spi_trace.proofs.paid.count_begins.Given as goal

abbrev pub invariant-loop-e : goal.invariant-loop-e
invariant-loop-e l = record { count : l.n ≡ begins_of (message l.label) (map event (take l.e-index l.events)); few : l.n ≤ l.e-index }
