use Rattle.spi_course.proofs.Told.{runs_of}
use Rattle.spi_course.proofs.laws.courses_are_runs.Goals as goal

pub returns : goal.returns
returns c = λ p q ts es. runs_of
