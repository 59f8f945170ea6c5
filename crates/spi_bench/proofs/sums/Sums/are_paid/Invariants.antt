use Rattle.std.proofs.Common.{ℕ, ◌<◌, ◌≤◌}
use Rattle.std.specs.Prelude.{slice_index}
use Rattle.spi_bench.proofs.sums.Sums.are_paid.Given as goal

abbrev pub invariant-loop-count : goal.invariant-loop-count
invariant-loop-count l = (i : ℕ) → i < l.count-index → slice_index l.self.checks.items i ≤ 1
