use Rattle.std.proofs.Common.{take, map}
use Rattle.spi_term.specs.View.{atom}
use Rattle.spi_count.specs.Keeping.{IsKeyed}
use Rattle.spi_count.specs.Adding.{AreKeyed, AreRead}
use Rattle.spi_count.specs.declared.keys.Keys as Declared
use Rattle.spi_count.proofs.reading.read_late.Given as goal

abbrev pub invariant-loop-wait : goal.invariant-loop-wait
invariant-loop-wait l = (keys : Declared.Keys) → IsKeyed l.store keys → AreKeyed l.store keys l.late → AreRead l.store keys (take l.wait-index l.late) (map atom l.atoms.items)
