use Rattle.std.proofs.Common.{◌≡◌, map, length}
use Rattle.spi_term.specs.View.{ty}
use Rattle.spi_scope.specs.Meaning.{nested_types}
use Rattle.spi_scope.proofs.types.nest_rest_types.Given as goal

abbrev pub invariant-loop-part : goal.invariant-loop-part
invariant-loop-part l = nested_types (map ty l.more.items) (ty l.last) ≡ nested_types (map ty l.fn.more.items) (ty l.fn.last)

abbrev pub decreases-loop-part : goal.decreases-loop-part
decreases-loop-part l = length l.more.items
