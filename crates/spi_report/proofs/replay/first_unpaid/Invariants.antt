use Rattle.std.proofs.Common.{◌≡◌, map, take, None}
use Rattle.spi_run.specs.View.{event}
use Rattle.spi_report.specs.Events.{first_unpaid}
use Rattle.spi_report.proofs.replay.first_unpaid.Given as goal

abbrev pub invariant-loop-k : goal.invariant-loop-k
invariant-loop-k l = first_unpaid 0 (map event (take l.k l.events)) (take l.k l.from) ≡ None
