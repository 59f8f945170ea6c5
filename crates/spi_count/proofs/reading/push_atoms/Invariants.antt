use Rattle.std.proofs.Common.{◌≡◌, ◌++◌, map, replicate}
use Rattle.spi_term.specs.View.{message, atom}
use Rattle.spi_count.specs.Adding.{atom_of_kind}
use Rattle.spi_count.proofs.reading.push_atoms.Given as goal

abbrev pub invariant-loop-i : goal.invariant-loop-i
invariant-loop-i l = map atom l.atoms.items ≡ map atom l.initial.atoms.items ++ replicate l.i (atom_of_kind l.kind (message l.m))
