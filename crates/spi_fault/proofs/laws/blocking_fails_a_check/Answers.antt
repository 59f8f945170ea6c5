use Rattle.spi_fault.proofs.First.{fails_first}
use Rattle.spi_fault.proofs.laws.blocking_fails_a_check.Goals as goal

pub returns : goal.returns
returns c = λ env p over b. fails_first env p over b
