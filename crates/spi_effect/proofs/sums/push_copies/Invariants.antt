use Rattle.std.proofs.Common.{◌≡◌, ◌++◌, map, take}
use Rattle.spi_term.specs.View.{atom}
use Rattle.spi_effect.proofs.sums.push_copies.Given as goal

abbrev pub invariant-loop-a : goal.invariant-loop-a
invariant-loop-a l = map atom l.to.items ≡ map atom l.initial.to.items ++ map atom (take l.a-index l.from)
