use Rattle.std.proofs.Common.{subst, sym, arith}
use Rattle.spi_text.proofs.Blocks.{AreBlocksTo, one_block}
use Rattle.spi_text.proofs.lines.blocks_of.Goals as goal

pub loop-at-preserved : goal.loop-at-preserved
loop-at-preserved c =
    subst (AreBlocksTo c.args.bytes.now _ _) (sym c.in_ok-push.ensures.items)
    (one_block c.args.bytes.now c.loop-at.blocks.items c.loop-at.at c.loop-at.count c.starts_in-count.result c.loop-at.invariant
    (omega (arith, c.loop-at-test.true, c.loop-at.invariant.within)) c.starts_in-count.ensures)
