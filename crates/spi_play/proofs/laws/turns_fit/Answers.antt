use Rattle.spi_play.proofs.Fit.{turns_fit}
use Rattle.spi_play.proofs.laws.turns_fit.Goals as goal

pub returns : goal.returns
returns c = turns_fit
