use Rattle.std.proofs.Common.{◌+◌, ◌-◌, ◌<◌, ◌≤◌, vec_len}
use Rattle.std.specs.Option.{ForSome}
use Rattle.spi_play.specs.Way.{seen_of}
use Rattle.spi_play.specs.Play.{start}
use Rattle.spi_play.specs.Outcome.{course, PlayStands}
use Rattle.spi_play.proofs.plays.play.Given as goal

-- the play stands, and each step used at most one name
abbrev pub invariant-loop-ended : goal.invariant-loop-ended
invariant-loop-ended g l = record {
  stands : PlayStands l.fn.only l.fn.most
      (start l.fn.pool (seen_of (λ b. (goal.Player-dyn g (b.vtable, b.value)).times b.value) (λ b. (goal.Player-dyn g (b.vtable, b.value)).way b.value) l.fn.players.items) l.fn.only)
      (course l.pool l.steps.items l.events.items)
      (seen_of (λ b. (goal.Player-dyn g (b.vtable, b.value)).times b.value) (λ b. (goal.Player-dyn g (b.vtable, b.value)).way b.value) l.players.items) l.next;
  within : ForSome l.next (λ place. place < vec_len l.players);
  few : vec_len l.steps ≤ l.most;
  names : l.pool.configuration.names ≤ l.fn.pool.configuration.names + vec_len l.steps;
}

abbrev pub decreases-loop-ended : goal.decreases-loop-ended
decreases-loop-ended g l = l.most - vec_len l.steps + vec_len l.players
