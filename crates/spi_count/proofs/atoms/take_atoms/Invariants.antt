use Rattle.std.proofs.Common.{take}
use Rattle.spi_count.specs.Adding.{TakesAll}
use Rattle.spi_count.proofs.atoms.take_atoms.Given as goal

abbrev pub invariant-loop-a : goal.invariant-loop-a
invariant-loop-a l = TakesAll l.keys (take l.a-index l.ids) l.initial.sum l.sum
