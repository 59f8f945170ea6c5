use Rattle.std.proofs.Common.{refl, []}
use Rattle.spi_term.specs.View.{message}
use Rattle.spi_rules.specs.Messages.{IsLabel}
use Rattle.spi_message.specs.Tests.{labelled}
use Rattle.spi_message.proofs.Deciding.{labelled_true, labelled_from}
use Rattle.spi_message.proofs.Judging.{judged}
use Rattle.spi_message.proofs.judgements.is_label.Goals as goal

pub returns : goal.returns
returns c = judged (λ e. labelled (message c.args.m.now) e) (λ e. IsLabel [] e (message c.args.m.now)) (λ e. (labelled_true (message c.args.m.now) e, (λ h. labelled_from h))) _ _ _ c.types.ensures refl c.is_label.result c.is_label.ensures
