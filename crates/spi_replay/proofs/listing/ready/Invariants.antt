use Rattle.std.proofs.Common.{◌≡◌, length}
use Rattle.spi_replay.specs.Listing.{steps_before}
use Rattle.spi_replay.specs.Pools.{pooled}
use Rattle.spi_replay.proofs.listing.ready.Given as goal

abbrev pub invariant-loop-place : goal.invariant-loop-place
invariant-loop-place l = l.count ≡ length (steps_before (pooled l.state).configuration l.place)
