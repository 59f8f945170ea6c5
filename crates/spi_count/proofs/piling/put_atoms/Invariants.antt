use Rattle.std.proofs.Common.{take}
use Rattle.spi_count.specs.Adding.{AddsAllTo}
use Rattle.spi_count.proofs.piling.put_atoms.Given as goal

abbrev pub invariant-loop-a : goal.invariant-loop-a
invariant-loop-a l = AddsAllTo l.keys (take l.a-index l.ids) l.initial.pile l.pile
