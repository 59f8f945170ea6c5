use Rattle.spi_term.specs.View.{message}
use Rattle.spi_replay.proofs.Channels.{NoneBefore}
use Rattle.spi_replay.proofs.listing.waited_on.Given as goal

abbrev pub invariant-loop-place : goal.invariant-loop-place
invariant-loop-place l = NoneBefore l.state (message l.channel) l.place
