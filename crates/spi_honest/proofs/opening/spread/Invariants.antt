use Rattle.spi_narrate.specs.Views.{narration_of}
use Rattle.spi_scope.specs.Files.{meant}
use Rattle.spi_honest.specs.Stages.{SpreadsTo}
use Rattle.spi_honest.proofs.opening.spread.Given as goal

abbrev pub invariant-loop-i : goal.invariant-loop-i
invariant-loop-i l = SpreadsTo (narration_of l.n) (meant l.file) l.i l.stage
