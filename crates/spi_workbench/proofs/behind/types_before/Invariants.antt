use Rattle.std.proofs.Common.{◌≡◌, map, take}
use Rattle.spi_term.specs.Spelling.{spelled}
use Rattle.spi_term.specs.View.{ty}
use Rattle.spi_workbench.specs.Behind.{type_made}
use Rattle.spi_workbench.proofs.behind.types_before.Given as goal

abbrev pub invariant-loop-id : goal.invariant-loop-id
invariant-loop-id l = map ty l.types.items ≡ map type_made (take l.id (spelled l.whole.names l.whole.process))
