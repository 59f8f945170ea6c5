use Rattle.std.proofs.Common.{◌≡◌, map, drop}
use Rattle.spi_term.specs.View.{atom}
use Rattle.spi_term.specs.Tests.{mentions}
use Rattle.spi_term.proofs.free.is_name_in_effect.Given as goal

abbrev pub invariant-loop-a : goal.invariant-loop-a
invariant-loop-a l = mentions l.x (map atom l.es) ≡ mentions l.x (map atom (drop l.a-index l.es))
