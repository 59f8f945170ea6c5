use Rattle.std.proofs.Common.{◌≡◌, ◌++◌, [], ◌∷◌, map, length}
use Rattle.spi_term.specs.View.{message}
use Rattle.spi_scope.specs.Meaning.{nested}
use Rattle.spi_scope.proofs.messages.nest_rest.Given as goal

abbrev pub invariant-loop-part : goal.invariant-loop-part
invariant-loop-part l = nested (message l.first) (map message l.more.items ++ message l.last ∷ []) ≡ nested (message l.fn.first) (map message l.fn.more.items)

abbrev pub decreases-loop-part : goal.decreases-loop-part
decreases-loop-part l = length l.more.items
