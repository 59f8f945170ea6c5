use Rattle.std.proofs.Common.{◌≡◌, ◌+◌, ◌<◌, ◌^◌, map, drop}
use Rattle.spi_term.specs.View.{atom}
use Rattle.spi_term.specs.Spelling.{effect_nodes, stopped}
use Rattle.spi_term.proofs.size.effect_count.Given as goal

abbrev pub invariant-loop-a : goal.invariant-loop-a
invariant-loop-a l = record {
  fits : l.count < 2 ^ 64;
  so_far : stopped (effect_nodes (map atom l.e.atoms.items)) ≡ stopped (l.count + effect_nodes (map atom (drop l.a-index l.e.atoms.items)));
}
