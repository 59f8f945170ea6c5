use Rattle.std.proofs.Common.{◌-◌, length}
use Rattle.spi_text.proofs.Blocks.{AreBlocksTo}
use Rattle.spi_text.proofs.lines.blocks_of.Given as goal

abbrev pub invariant-loop-at : goal.invariant-loop-at
invariant-loop-at l = AreBlocksTo l.bytes l.at l.count l.blocks.items

abbrev pub decreases-loop-at : goal.decreases-loop-at
decreases-loop-at l = length l.bytes - l.at
