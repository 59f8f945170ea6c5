use Rattle.spi_honest.proofs.Stages.{place_fault}
use Rattle.spi_honest.proofs.stage.attempt.Goals as goal

pub unreachable-requires : goal.unreachable-requires
unreachable-requires c = place_fault c.in-NoPlace.place c.requires.roomy c.in-NoPlace.is c.in-Err.ensures.refused
