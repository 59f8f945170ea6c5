use Rattle.std.proofs.Common.{◌≡◌, ◌++◌, drop, map}
use Rattle.spi_tree.specs.Views.{atom_of}
use Rattle.spi_term.specs.View.{atom}
use Rattle.spi_scope.specs.Parts.{numbered_atom}
use Rattle.spi_scope.specs.Points.{numbered_atoms_points}
use Rattle.spi_scope.specs.Gives.{run}
use Rattle.spi_scope.proofs.derivations.read_atoms.Given as goal

abbrev pub invariant-loop-a : goal.invariant-loop-a
invariant-loop-a l =
    let rest = map atom_of (drop l.a-index l.es) in
    let all = map atom_of l.es in
    record {
      ran : run (numbered_atoms_points rest) l.count ≡ run (numbered_atoms_points all) l.count;
      read : map atom l.read.items ++ map numbered_atom rest ≡ map numbered_atom all;
    }
