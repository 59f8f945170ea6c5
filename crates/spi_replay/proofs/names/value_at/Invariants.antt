use Rattle.std.specs.Prelude.{ℕ, ◌<◌, List, length}
use Rattle.spi_replay.specs.declared.names.Link.{Link}
use Rattle.spi_intern.specs.declared.messages.MsgId.{MsgId}
use Rattle.spi_replay.specs.Standing.{HasLink, IsValueAt}
use Rattle.spi_replay.proofs.names.value_at.Given as goal

pub record LinkReaches (links : List Link) (last steps at left : ℕ) : Type 0 where
  pub has : HasLink links at left
  pub below : at < length links
  pub finds : (id : MsgId) → IsValueAt links at left id → IsValueAt links last steps id

abbrev pub invariant-loop-left : goal.invariant-loop-left
invariant-loop-left l = LinkReaches l.links l.fn.last l.fn.steps l.at l.left

abbrev pub decreases-loop-left : goal.decreases-loop-left
decreases-loop-left l = l.left
