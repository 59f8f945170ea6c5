use Rattle.spi_blame.proofs.Blaming.{blamed_mismatch}
use Rattle.spi_blame.proofs.laws.blamed_is_mismatch.Goals as goal

pub returns-clause-typed : goal.returns-clause-typed
returns-clause-typed c = λ env m t path r h b. blamed_mismatch h b

pub returns-clause-label : goal.returns-clause-label
returns-clause-label c = λ env m path r h b. blamed_mismatch h b
