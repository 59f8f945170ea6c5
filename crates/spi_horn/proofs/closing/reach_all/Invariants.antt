use Rattle.std.proofs.Common.{◌-◌, ℕ, List, [], length}
use Rattle.spi_horn.specs.Finding.{IsLookedThrough, KeepsPlaces}
use Rattle.spi_horn.proofs.closing.reach_all.Given as goal

abbrev pub invariant-loop-cursor : goal.invariant-loop-cursor
invariant-loop-cursor l = record {
  good : (start : List ℕ) → IsLookedThrough l.fn.rules start l.initial.closure.order.items l.initial.closure.places.items 0 [] 0 → IsLookedThrough l.fn.rules start l.closure.order.items l.closure.places.items l.cursor [] 0;
  keeps : KeepsPlaces l.initial.closure.places.items l.closure.places.items;
}

abbrev pub decreases-loop-cursor : goal.decreases-loop-cursor
decreases-loop-cursor l = length l.closure.places.items - l.cursor
