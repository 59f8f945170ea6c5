use Rattle.std.proofs.Common.{◌≡◌, map, drop}
use Rattle.spi_term.specs.View.{atom}
use Rattle.spi_message.specs.Tests.{scope_of_types}
use Rattle.spi_message.specs.Tests.{good_effect}
use Rattle.spi_message.proofs.scoped.is_good_effect.Given as goal

abbrev pub invariant-loop-a : goal.invariant-loop-a
invariant-loop-a l = good_effect (map atom l.a-items) (scope_of_types l.env l.inner) ≡ good_effect (map atom (drop l.a-index l.a-items)) (scope_of_types l.env l.inner)
