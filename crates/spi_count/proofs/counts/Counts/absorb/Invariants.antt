use Rattle.std.proofs.Common.{◌+◌}
use Rattle.spi_count.specs.Counts.{count_of}
use Rattle.spi_count.proofs.Merging.{Left}
use Rattle.spi_count.proofs.counts.Counts.absorb.Given as goal

abbrev pub invariant-loop-key : goal.invariant-loop-key
invariant-loop-key l = Left l.key-iterator (count_of l.self.counts) (λ q. count_of l.fn.self.counts q + count_of l.fn.other.counts q)
