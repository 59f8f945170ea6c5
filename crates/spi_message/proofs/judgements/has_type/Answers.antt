use Rattle.std.proofs.Common.{refl, []}
use Rattle.spi_term.specs.View.{message, ty}
use Rattle.spi_rules.specs.Messages.{HasType}
use Rattle.spi_message.specs.Tests.{typed}
use Rattle.spi_message.proofs.Deciding.{typed_true, typed_from}
use Rattle.spi_message.proofs.Judging.{judged}
use Rattle.spi_message.proofs.judgements.has_type.Goals as goal

pub returns : goal.returns
returns c = judged (λ e. typed (message c.args.m.now) e (ty c.args.t.now)) (λ e. HasType [] e (message c.args.m.now) (ty c.args.t.now)) (λ e. (typed_true (message c.args.m.now) e (ty c.args.t.now), (λ h. typed_from h))) _ _ _ c.types.ensures refl c.has_type.result c.has_type.ensures
