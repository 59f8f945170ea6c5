use Rattle.spi_run.proofs.Once.{takes_once}
use Rattle.spi_run.proofs.laws.one_step.Goals as goal

pub returns : goal.returns
returns c = λ c d d' s e e' t t'. takes_once t t'
