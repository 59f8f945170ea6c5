use Rattle.spi_count.specs.Counts.{count_of}
use Rattle.spi_count.proofs.Waiting.{LeftOver}
use Rattle.spi_count.proofs.pile.put_off.Given as goal

abbrev pub invariant-loop-key : goal.invariant-loop-key
invariant-loop-key l = LeftOver l.kind l.key-iterator l.late.items l.initial.late.items (count_of l.fn.counts.counts)
