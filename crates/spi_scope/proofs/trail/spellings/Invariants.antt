use Rattle.std.proofs.Common.{◌≡◌, ◌≤◌, ◌++◌, map, length}
use Rattle.spi_scope.specs.Chains.{link, chains, chain_at}
use Rattle.spi_scope.proofs.trail.spellings.Given as goal

abbrev pub invariant-loop-at : goal.invariant-loop-at
invariant-loop-at l = record {
  read : l.found.items ++ chain_at (chains (map link l.links)) l.at ≡ chain_at (chains (map link l.links)) l.chain;
  within : l.at ≤ length l.links;
}

abbrev pub decreases-loop-at : goal.decreases-loop-at
decreases-loop-at l = l.at
