-- Labels of events, with numbers.
use Rattle.std.specs.Prelude.{◌≡◌, ℕ, ◌≤◌, List, Some, slice_get, length}
use Rattle.spi_term.specs.Term.{Message}
use Rattle.spi_run.specs.Reduction.{Event, begun, ended, ended_many}
use Rattle.spi_intern.specs.Table.{AllDiffer, TellsAll}

abbrev pub label_of : Event → Message
label_of (begun m) = m
label_of (ended m) = m
label_of (ended_many m) = m

-- a number is that of the event's label
abbrev pub NumbersLabel : List Message → ℕ → Event → Type 0
NumbersLabel ms n e = slice_get ms n ≡ Some (label_of e)

-- the numbers of the labels, below a bound: equal labels have equal numbers, and different ones different numbers
pub record AreNumbered (es : List Event) (ns : List ℕ) (bound : ℕ) : Type 0 where
  pub messages : List Message
  pub each : TellsAll (NumbersLabel messages) ns es
  pub differ : AllDiffer messages
  pub few : length messages ≤ bound
