use Rattle.std.proofs.Common.{arith}
use Rattle.spi_show.proofs.Shifts.{swept_then, swept_else}
use Rattle.spi_show.proofs.shift.sweep.Goals as goal
use Rattle.spi_show.proofs.shift.sweep.Goals.{then-n-s, else-n-s}

pub loop-n-preserved : goal.loop-n-preserved
loop-n-preserved c =
    elim c.if-n-s.branch [
      | then-n-s w ↦ swept_then c.args.numbers.now c.loop-n.n-index c.loop-n.s c.if-n-s.s c.requires c.loop-n.invariant c.loop-n-test.true w.if-n-s.true w.s-is
      | else-n-s w ↦ swept_else c.args.numbers.now c.loop-n.n-index c.loop-n.s c.if-n-s.s c.requires c.loop-n.invariant c.loop-n-test.true (omega (arith, w.if-n-s.false)) w.s-is
    ]
