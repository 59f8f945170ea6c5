use Rattle.spi_intern.proofs.Counted.{counted_at_least}
use Rattle.spi_intern.proofs.laws.parts_are_counted_at_least.Goals as goal

pub returns : goal.returns
returns c = counted_at_least
