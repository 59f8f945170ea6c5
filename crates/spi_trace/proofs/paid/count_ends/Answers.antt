use Rattle.std.proofs.Common.{arith}
use Rattle.spi_term.specs.View.{message}
use Rattle.spi_run.specs.View.{event}
use Rattle.spi_trace.proofs.Prefixes.{ends_more, one_end}
use Rattle.spi_trace.proofs.paid.count_ends.Goals as goal

pub loop-e-preserved : goal.loop-e-preserved
loop-e-preserved c = record {
  count = ends_more (message c.args.label.now) c.args.events.now c.loop-e.e-index c.e-item.result _ _ c.loop-e-test.true c.e-item.is c.loop-e.invariant.count c.ends_in-n.ensures;
  few = let h = one_end (message c.args.label.now) (event c.e-item.result) in omega (arith, c.ends_in-n.ensures, c.loop-e.invariant.few);
}
