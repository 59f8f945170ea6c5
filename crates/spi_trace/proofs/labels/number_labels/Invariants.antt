use Rattle.std.proofs.Common.{map, take}
use Rattle.spi_run.specs.View.{event}
use Rattle.spi_intern.specs.Table.{TellsAll}
use Rattle.spi_trace.specs.Labels.{NumbersLabel}
use Rattle.spi_trace.proofs.labels.number_labels.Given as goal

abbrev pub invariant-loop-e : goal.invariant-loop-e
invariant-loop-e l = TellsAll (NumbersLabel l.store.messages) l.numbers.items (map event (take l.e-index l.events))
