use Rattle.spi_rules.proofs.Typing.{label_typed}
use Rattle.spi_rules.proofs.Good.{label_has_type}
use Rattle.spi_rules.proofs.laws.label_is_typed.Goals as goal

pub returns : goal.returns
returns c =
    λ env m closed. ((λ l. let (t, h, o) = label_has_type closed.above closed.types l in (t, h)), (λ h. label_typed (λ m' fs i. elim i [ ]) h.1))
