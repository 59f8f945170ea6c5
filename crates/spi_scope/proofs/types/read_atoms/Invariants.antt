use Rattle.std.proofs.Common.{◌≡◌, ◌+◌, ◌≤◌, ◌++◌, drop, map}
use Rattle.spi_tree.specs.Views.{atom_of}
use Rattle.spi_term.specs.Spelling.{effect_nodes, stopped}
use Rattle.spi_term.specs.View.{atom}
use Rattle.spi_scope.specs.Meaning.{effect_in}
use Rattle.spi_scope.specs.Points.{atoms_points}
use Rattle.spi_scope.specs.Gives.{run}
use Rattle.spi_scope.proofs.types.read_atoms.Given as goal

abbrev pub invariant-loop-a : goal.invariant-loop-a
invariant-loop-a l =
    let xs = l.scope.held.names in
    let rest = map atom_of (drop l.a-index l.es) in
    let all = map atom_of l.es in
    record {
      ran : run (atoms_points xs rest) l.scope.count ≡ run (atoms_points xs all) l.scope.count;
      read : l.total ≤ 1000 → map atom l.read.items ++ effect_in l.base xs rest ≡ effect_in l.base xs all;
      counted : stopped (l.total + effect_nodes (effect_in l.base xs rest)) ≡ stopped (l.spent + effect_nodes (effect_in l.base xs all));
      small : stopped l.total ≡ l.total;
    }
