use Rattle.spi_term.proofs.Counting.{types_equivalent}
use Rattle.spi_term.proofs.laws.types_are_equivalent.Goals as goal

pub returns : goal.returns
returns c = types_equivalent
