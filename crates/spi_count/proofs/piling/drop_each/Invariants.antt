use Rattle.std.proofs.Common.{take}
use Rattle.spi_count.specs.Adding.{TakesAllFrom}
use Rattle.spi_count.proofs.piling.drop_each.Given as goal

abbrev pub invariant-loop-a : goal.invariant-loop-a
invariant-loop-a l = TakesAllFrom l.keys (take l.a-index l.ids) l.initial.pile l.pile
