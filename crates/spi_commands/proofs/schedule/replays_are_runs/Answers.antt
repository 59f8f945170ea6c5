use Rattle.spi_commands.proofs.ScheduleSteps.{handed_over, runs_of}
use Rattle.spi_commands.proofs.schedule.replays_are_runs.Goals as goal

pub returns : goal.returns
returns c = λ p q ss es ms r. (runs_of r, handed_over r)
