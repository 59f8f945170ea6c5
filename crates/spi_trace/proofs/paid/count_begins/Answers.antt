use Rattle.std.proofs.Common.{arith}
use Rattle.spi_term.specs.View.{message}
use Rattle.spi_run.specs.View.{event}
use Rattle.spi_trace.proofs.Prefixes.{begins_more, one_begin}
use Rattle.spi_trace.proofs.paid.count_begins.Goals as goal

pub loop-e-preserved : goal.loop-e-preserved
loop-e-preserved c = record {
  count = begins_more (message c.args.label.now) c.args.events.now c.loop-e.e-index c.e-item.result _ _ c.loop-e-test.true c.e-item.is c.loop-e.invariant.count c.begins_in-n.ensures;
  few = let h = one_begin (message c.args.label.now) (event c.e-item.result) in omega (arith, c.begins_in-n.ensures, c.loop-e.invariant.few);
}
