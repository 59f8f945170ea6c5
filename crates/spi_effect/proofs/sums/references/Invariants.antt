use Rattle.std.proofs.Common.{◌≡◌, map, take}
use Rattle.spi_term.specs.View.{atom, pointed}
use Rattle.spi_effect.proofs.sums.references.Given as goal

abbrev pub invariant-loop-a : goal.invariant-loop-a
invariant-loop-a l = pointed l.all.items ≡ map atom (take l.a-index l.atoms)
