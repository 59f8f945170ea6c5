use Rattle.std.proofs.Common.{refl, []}
use Rattle.spi_term.specs.View.{effect}
use Rattle.spi_rules.specs.Good.{GoodEffect}
use Rattle.spi_message.specs.Tests.{good_effect}
use Rattle.spi_message.proofs.Deciding.{good_effect_true, good_effect_from}
use Rattle.spi_message.proofs.Judging.{judged}
use Rattle.spi_message.proofs.judgements.good_effect.Goals as goal

pub returns : goal.returns
returns c = judged (λ e. good_effect (effect c.args.e.now) e) (λ e. GoodEffect [] e (effect c.args.e.now)) (λ e. (good_effect_true (effect c.args.e.now) e, (λ h. good_effect_from h))) _ _ _ c.types.ensures refl c.is_good_effect.result c.is_good_effect.ensures
