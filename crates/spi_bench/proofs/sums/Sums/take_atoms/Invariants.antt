use Rattle.std.proofs.Common.{map, take}
use Rattle.spi_term.specs.View.{atom}
use Rattle.spi_bench.specs.Sums.{AddsAtoms}
use Rattle.spi_bench.proofs.sums.Sums.take_atoms.Given as goal

abbrev pub invariant-loop-a : goal.invariant-loop-a
invariant-loop-a l = AddsAtoms l.self l.initial.self (map atom (take l.a-index l.e.atoms.items))
