use Rattle.spi_show.proofs.Lines.{line_more}
use Rattle.spi_show.proofs.steps.put_steps.Goals as goal

pub loop-s-preserved : goal.loop-s-preserved
loop-s-preserved c = line_more c.args.out.now.items c.loop-s.out.items c.put_step.new.out.items c.args.steps.now c.loop-s.s-index _ c.loop-s-test.true c.loop-s.invariant c.in_ok-put_step.ensures
