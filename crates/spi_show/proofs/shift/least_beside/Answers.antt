use Rattle.spi_show.proofs.Shifts.{beside_then, beside_else}
use Rattle.spi_show.proofs.shift.least_beside.Goals as goal
use Rattle.spi_show.proofs.shift.least_beside.Goals.{then-n-s, else-n-s}

pub loop-n-preserved : goal.loop-n-preserved
loop-n-preserved c =
    elim c.if-n-s.branch [
      | then-n-s w ↦ beside_then c.args.numbers.now c.loop-n.n-index c.loop-n.s c.if-n-s.s c.requires c.loop-n.invariant c.loop-n-test.true w.if-n-s.true w.s-is
      | else-n-s w ↦ beside_else c.args.numbers.now c.loop-n.n-index c.loop-n.s c.if-n-s.s c.requires c.loop-n.invariant c.loop-n-test.true w.if-n-s.false w.s-is
    ]
