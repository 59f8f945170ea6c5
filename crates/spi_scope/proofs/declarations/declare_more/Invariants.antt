use Rattle.std.proofs.Common.{◌≡◌, ◌≤◌, drop}
use Rattle.spi_scope.specs.Points.{free_points, with_free}
use Rattle.spi_scope.specs.Gives.{run}
use Rattle.spi_scope.proofs.declarations.declare_more.Given as goal

abbrev pub invariant-loop-word : goal.invariant-loop-word
invariant-loop-word l = record {
  ran : run (free_points l.scope.held.names (drop l.word-index l.more)) l.scope.count ≡ run (free_points l.fn.scope.held.names l.more) l.fn.scope.count;
  names : with_free l.scope.held.names (drop l.word-index l.more) ≡ with_free l.fn.scope.held.names l.more;
  noted : l.scope.held.noted ≡ l.fn.scope.held.noted;
  types : l.scope.types ≡ l.fn.scope.types;
  few : l.scope.count ≤ 100000;
}
