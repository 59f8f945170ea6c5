use Rattle.std.proofs.Common.{◌≡◌, ℕ, ◌<◌, List, [], Some, slice_get, length}
use Rattle.spi_horn.specs.declared.rules.Rule.{Rule}
use Rattle.spi_horn.specs.Leading.{HasSomePlace}
use Rattle.spi_horn.specs.Finding.{IsLookedThrough}
use Rattle.spi_horn.proofs.closing.start_all.Given as goal

abbrev pub invariant-loop-j : goal.invariant-loop-j
invariant-loop-j l = record {
  good : (rules : List Rule) → IsLookedThrough rules l.fn.start l.closure.order.items l.closure.places.items 0 [] 0;
  started : (j n : ℕ) → j < l.j → slice_get l.fn.start j ≡ Some n → HasSomePlace l.closure.places.items n;
  count : length l.closure.places.items ≡ length l.initial.closure.places.items;
}
