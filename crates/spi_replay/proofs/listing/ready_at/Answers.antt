use Rattle.std.proofs.Common.{◌∙◌, ◌<◌, length, arith}
use Rattle.spi_replay.specs.Listing.{ready_steps}
use Rattle.spi_replay.specs.Pools.{pooled}
use Rattle.spi_replay.proofs.Listed.{some_order}
use Rattle.spi_replay.proofs.Told.{many_places}
use Rattle.spi_replay.proofs.Begun.{count_begun}
use Rattle.spi_replay.proofs.listing.ready_at.Goals as goal

pub returns : goal.returns
returns c =
    let b : c.args.place < length (pooled c.args.state.now).configuration.places = omega (arith, many_places c.args.state.now) in
    (ready_steps (pooled c.args.state.now).configuration, some_order (pooled c.args.state.now).configuration, c.begun_at.ensures ∙ count_begun (pooled c.args.state.now).configuration c.args.place b)
