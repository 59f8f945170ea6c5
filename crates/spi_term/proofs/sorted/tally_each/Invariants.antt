use Rattle.std.proofs.Common.{ℕ, ◌≤◌, map, take}
use Rattle.std.specs.Prelude.{slice_index}
use Rattle.spi_term.specs.View.{atom, pointed}
use Rattle.spi_term.specs.Looking.{IsTally}
use Rattle.spi_term.proofs.sorted.tally_each.Given as goal

abbrev pub invariant-loop-a : goal.invariant-loop-a
invariant-loop-a l = record {
  few : (k : ℕ) → slice_index l.counts k ≤ l.a-index;
  so_far : IsTally (pointed l.sorted) (map atom (take l.a-index l.es)) l.counts;
}
