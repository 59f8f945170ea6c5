use Rattle.std.proofs.Common.{◌≡◌, map, take}
use Rattle.spi_term.specs.View.{atom, pointed}
use Rattle.spi_term.proofs.count.point.Given as goal

abbrev pub invariant-loop-i : goal.invariant-loop-i
invariant-loop-i l = pointed (take l.i l.references) ≡ map atom (take l.i l.atoms)
