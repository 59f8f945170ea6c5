use Rattle.std.proofs.Common.{ap, length, arith}
use Rattle.spi_run.specs.View.{step}
use Rattle.spi_replay.specs.Listing.{ready_steps}
use Rattle.spi_replay.specs.Pools.{pooled}
use Rattle.spi_replay.proofs.Listed.{some_order}
use Rattle.spi_replay.proofs.Begun.{before_none}
use Rattle.spi_replay.proofs.Told.{before_next, before_end, found}
use Rattle.spi_replay.proofs.listing.kth.Goals as goal

pub loop-place-init : goal.loop-place-init
loop-place-init c = omega (arith, ap length (before_none (pooled c.args.state.now).configuration))

pub returns-then-left-here : goal.returns-then-left-here
returns-then-left-here c = (ready_steps (pooled c.args.state.now).configuration, some_order (pooled c.args.state.now).configuration, found c.args.state.now c.loop-place.place c.loop-place.left c.args.k (step c.step_at.result) (omega arith) (omega arith) c.loop-place.invariant c.step_at.ensures)

pub loop-place-preserved : goal.loop-place-preserved
loop-place-preserved c = omega (arith, before_next c.args.state.now c.loop-place.place (omega arith))

pub returns : goal.returns
returns c = (ready_steps (pooled c.args.state.now).configuration, some_order (pooled c.args.state.now).configuration, omega (arith, before_end c.args.state.now c.loop-place.place (omega arith) (omega arith)))
