use Rattle.spi_term.proofs.Counting.{counts_equivalent}
use Rattle.spi_term.proofs.laws.counts_are_equivalent.Goals as goal

pub returns : goal.returns
returns c = counts_equivalent
