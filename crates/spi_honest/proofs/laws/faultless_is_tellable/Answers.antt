use Rattle.spi_honest.proofs.Tellable.{tellable}
use Rattle.spi_honest.proofs.laws.faultless_is_tellable.Goals as goal

pub returns : goal.returns
returns c = tellable
