use Rattle.std.proofs.Common.{◌≡◌, ◌+◌, ◌≤◌, map, drop}
use Rattle.spi_term.specs.View.{atom}
use Rattle.spi_term.specs.Counts.{tally}
use Rattle.spi_term.proofs.count.tally_of.Given as goal

abbrev pub invariant-loop-b : goal.invariant-loop-b
invariant-loop-b l = record {
  few : l.n ≤ l.b-index;
  so_far : l.n + tally (atom l.a) (map atom (drop l.b-index l.es)) ≡ tally (atom l.a) (map atom l.es);
}
