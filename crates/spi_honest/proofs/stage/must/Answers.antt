use Rattle.spi_honest.proofs.Stages.{taken_fault}
use Rattle.spi_honest.proofs.stage.must.Goals as goal

pub unreachable-requires : goal.unreachable-requires
unreachable-requires c = taken_fault c.requires.can.2 c.in_default.not-NoMemory c.in-Err.ensures.refused
