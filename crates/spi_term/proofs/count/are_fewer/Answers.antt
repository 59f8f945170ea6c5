use Rattle.std.proofs.Common.{arith}
use Rattle.spi_term.proofs.Lookup.{pointed_at}
use Rattle.spi_term.proofs.Chunks.{fewer_more}
use Rattle.spi_term.proofs.count.are_fewer.Goals as goal

pub returns-in-None : goal.returns-in-None
returns-in-None c = absurd (c.in-None.ensures.place c.loop-a.a-index (pointed_at c.args.sorted.now c.loop-a.a-index c.a-item.result c.loop-a-test.true c.a-item.is))

pub loop-a-preserved : goal.loop-a-preserved
loop-a-preserved c =
    fewer_more c.args.sorted.now c.args.ours.now c.args.theirs.now c.loop-a.a-index c.a-item.result c.in-Some.place c.loop-a-test.true c.a-item.is c.in-Some.ensures.place
    (omega (arith, c.if-cut_at.false)) c.loop-a.invariant
