use Rattle.spi_trace.proofs.Payments.{paired_paid, paired_paid_many}
use Rattle.spi_trace.proofs.laws.paired_is_paid.Goals as goal

pub returns-clause-ends : goal.returns-clause-ends
returns-clause-ends c = paired_paid

pub returns-clause-manys : goal.returns-clause-manys
returns-clause-manys c = paired_paid_many
