use Rattle.spi_narrate.specs.Views.{narration_of}
use Rattle.spi_scope.specs.Files.{meant}
use Rattle.spi_honest.specs.Stages.{SharesTo}
use Rattle.spi_honest.proofs.opening.share.Given as goal

abbrev pub invariant-loop-i : goal.invariant-loop-i
invariant-loop-i l = SharesTo (narration_of l.n) (meant l.file) l._i l.stage
