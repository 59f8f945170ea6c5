use Rattle.spi_play.proofs.Running.{play_runs}
use Rattle.spi_play.proofs.laws.play_runs.Goals as goal

pub returns : goal.returns
returns c = play_runs
