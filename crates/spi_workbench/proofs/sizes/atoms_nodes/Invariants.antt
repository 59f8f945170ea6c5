use Rattle.std.proofs.Common.{◌≡◌, ◌+◌, drop, map}
use Rattle.spi_tree.specs.Views.{atom_of}
use Rattle.spi_term.specs.Spelling.{stopped}
use Rattle.spi_workbench.specs.Sizes.{atoms_size}
use Rattle.spi_workbench.proofs.sizes.atoms_nodes.Given as goal

abbrev pub invariant-loop-a : goal.invariant-loop-a
invariant-loop-a l =
    record {
      counted : stopped (l.total + atoms_size (map atom_of (drop l.a-index l.es))) ≡ stopped (atoms_size (map atom_of l.es));
      small : stopped l.total ≡ l.total;
    }
