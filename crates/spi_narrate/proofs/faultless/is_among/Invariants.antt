use Rattle.std.proofs.Common.{take}
use Rattle.spi_narrate.specs.Faults.{IsAmong}
use Rattle.spi_narrate.proofs.faultless.is_among.Given as goal

abbrev pub invariant-loop-each : goal.invariant-loop-each
invariant-loop-each l = IsAmong (take l.each-index l.words) l.word → ⊥
