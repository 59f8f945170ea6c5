use Rattle.std.proofs.Common.{ℕ, ◌<◌, ◌≤◌}
use Rattle.spi_term.specs.Names.{OfAtom, Avoids}
use Rattle.spi_term.specs.View.{atom}
use Rattle.spi_fault.proofs.least.has_bound.Given as goal

abbrev pub invariant-loop-x : goal.invariant-loop-x
invariant-loop-x l = (y : ℕ) → l.from ≤ y → y < l.x → OfAtom (Avoids y) (atom l.a)
