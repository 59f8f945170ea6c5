use Rattle.spi_narrate.specs.Views.{narration_of}
use Rattle.spi_scope.specs.Files.{meant}
use Rattle.spi_honest.specs.Stages.{ToldTo}
use Rattle.spi_honest.proofs.schedule.schedule_of.Given as goal

abbrev pub invariant-loop-at : goal.invariant-loop-at
invariant-loop-at l = ToldTo (narration_of l.n) (meant l.file) l.at l.stage
