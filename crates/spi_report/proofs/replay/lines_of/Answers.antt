use Rattle.spi_report.proofs.Lines.{put_more}
use Rattle.spi_report.proofs.replay.lines_of.Goals as goal

pub loop-k-preserved : goal.loop-k-preserved
loop-k-preserved c = put_more c.args.names.now c.loop-k.k c.args.events.now c.args.pairing.now.from.items c.index-events-k.result _ _ _ _ c.loop-k-test.true c.requires c.index-events-k.is c.index.ensures c.loop-k.invariant c.in_ok-put_line.ensures
