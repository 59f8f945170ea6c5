use Rattle.std.proofs.Common.{◌∙◌, ap, length, sym, arith}
use Rattle.spi_replay.specs.Listing.{ready_steps}
use Rattle.spi_replay.specs.Pools.{pooled}
use Rattle.spi_replay.proofs.Listed.{some_order}
use Rattle.spi_replay.proofs.Begun.{before_none}
use Rattle.spi_replay.proofs.Told.{before_next, next_fits, before_end}
use Rattle.spi_replay.proofs.listing.ready.Goals as goal

pub loop-place-init : goal.loop-place-init
loop-place-init c = sym (ap length (before_none (pooled c.args.state.now).configuration))

pub overflow_add-count : goal.overflow_add-count
overflow_add-count c = omega (arith, next_fits c.args.state.now c.loop-place.place c.requires (omega arith))

pub loop-place-preserved : goal.loop-place-preserved
loop-place-preserved c = omega (arith, before_next c.args.state.now c.loop-place.place (omega arith))

pub returns : goal.returns
returns c = (ready_steps (pooled c.args.state.now).configuration, some_order (pooled c.args.state.now).configuration, c.loop-place.invariant ∙ before_end c.args.state.now c.loop-place.place (omega arith) (omega arith))
