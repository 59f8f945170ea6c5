use Rattle.spi_intern.proofs.Counted.{counted}
use Rattle.spi_intern.proofs.laws.parts_are_counted.Goals as goal

pub returns : goal.returns
returns c = counted
