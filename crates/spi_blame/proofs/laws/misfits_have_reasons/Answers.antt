use Rattle.spi_blame.specs.Blaming.{typed}
use Rattle.spi_blame.proofs.Blaming.{misfit_reason, reason_misfit, holds_asks, asks_fits}
use Rattle.spi_blame.proofs.laws.misfits_have_reasons.Goals as goal

pub returns-clause-reason : goal.returns-clause-reason
returns-clause-reason c = λ env q. ((λ n. misfit_reason n), (λ r. reason_misfit r))

pub returns-clause-never : goal.returns-clause-never
returns-clause-never c = λ m t n env h. let (qs, k, each) = holds_asks (typed m t) h in n (asks_fits k)
