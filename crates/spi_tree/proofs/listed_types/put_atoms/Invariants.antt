use Rattle.std.proofs.Common.{◌≡◌, ◌++◌, map, take}
use Rattle.spi_tree.specs.Views.{atom_of}
use Rattle.spi_tree.specs.Listed.{joined, more_atom_list}
use Rattle.spi_tree.proofs.listed_types.put_atoms.Given as goal

abbrev pub invariant-loop-atom : goal.invariant-loop-atom
invariant-loop-atom l = l.out.items ≡ l.fn.out.items ++ joined more_atom_list (map atom_of (take l.atom-index l.atoms))
