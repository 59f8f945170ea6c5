use Rattle.std.proofs.Common.{ℕ, ◌<◌, ◌≤◌, Some}
use Rattle.std.specs.Prelude.{slice_index}
use Rattle.spi_term.specs.Term.{Atom}
use Rattle.spi_term.specs.Counts.{cut}
use Rattle.spi_term.specs.Looking.{IsFirstPlace}
use Rattle.spi_term.specs.View.{pointed}
use Rattle.spi_term.proofs.count.are_fewer.Given as goal

abbrev pub invariant-loop-a : goal.invariant-loop-a
invariant-loop-a l = (a : Atom) (i : ℕ) → i < l.a-index → IsFirstPlace a (pointed l.sorted) (Some i) → cut a (slice_index l.ours i) ≤ cut a (slice_index l.theirs i)
