use Rattle.std.proofs.Common.{◌≡◌, map, take}
use Rattle.spi_run.specs.View.{event}
use Rattle.spi_report.specs.Events.{event_lines}
use Rattle.spi_report.proofs.replay.lines_of.Given as goal

abbrev pub invariant-loop-k : goal.invariant-loop-k
invariant-loop-k l = l.out.items ≡ event_lines l.names 0 (map event (take l.k l.events)) (take l.k l.pairing.from.items)
