use Rattle.std.proofs.Common.{◌≡◌, ◌≤◌, ℕ, length}
use Rattle.spi_horn.specs.Needs.{IsSpread}
use Rattle.spi_horn.proofs.tracing.spread_all.Given as goal

abbrev pub invariant-loop-t : goal.invariant-loop-t
invariant-loop-t l = record {
  spread : (at : ℕ) → IsSpread l.fn.rules l.fn.closure.order.items l.fn.closure.places.items at (length l.initial.marks) l.initial.marks → IsSpread l.fn.rules l.fn.closure.order.items l.fn.closure.places.items at l.t l.marks;
  count : length l.marks ≡ length l.initial.marks;
  within : l.t ≤ length l.marks;
}

abbrev pub decreases-loop-t : goal.decreases-loop-t
decreases-loop-t l = l.t
