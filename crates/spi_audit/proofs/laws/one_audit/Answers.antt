use Rattle.spi_audit.proofs.OneAnswer.{one_answer}
use Rattle.spi_audit.proofs.laws.one_audit.Goals as goal

pub returns : goal.returns
returns c = one_answer
