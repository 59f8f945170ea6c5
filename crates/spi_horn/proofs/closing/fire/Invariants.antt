use Rattle.std.proofs.Common.{ℕ, List}
use Rattle.spi_horn.specs.Finding.{IsLookedThrough, KeepsPlaces}
use Rattle.spi_horn.specs.Waits.{numbers}
use Rattle.spi_horn.proofs.closing.fire.Given as goal

abbrev pub invariant-loop-k : goal.invariant-loop-k
invariant-loop-k l = record {
  good : (start : List ℕ) (c : ℕ) → IsLookedThrough l.fn.rules start l.initial.closure.order.items l.initial.closure.places.items c (numbers l.fn.waiting) 0 → IsLookedThrough l.fn.rules start l.closure.order.items l.closure.places.items c (numbers l.fn.waiting) l.k-index;
  keeps : KeepsPlaces l.initial.closure.places.items l.closure.places.items;
}
