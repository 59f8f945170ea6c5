use Rattle.std.specs.Prelude.{◌≡◌, ◌<◌, ℕ, Some, slice_get}
use Rattle.spi_term.specs.Spelling.{Shape, spelled}
use Rattle.spi_opponent.specs.Allowed.{Allowed}
use Rattle.spi_opponent.proofs.is_opponent.Given as goal

abbrev pub invariant-loop-node : goal.invariant-loop-node
invariant-loop-node l =
    (i : ℕ) (x : Shape) → i < l.node → slice_get (spelled l.process.names l.process.process) i ≡ Some x → Allowed x
