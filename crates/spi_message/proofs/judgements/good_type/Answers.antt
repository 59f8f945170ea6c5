use Rattle.std.proofs.Common.{[]}
use Rattle.spi_term.specs.View.{ty}
use Rattle.spi_rules.specs.Good.{GoodTy}
use Rattle.spi_message.specs.Tests.{good}
use Rattle.spi_message.proofs.Deciding.{good_true, good_from}
use Rattle.spi_message.proofs.Judging.{judged}
use Rattle.spi_message.proofs.judgements.good_type.Goals as goal

pub returns : goal.returns
returns c = judged (λ e. good e (ty c.args.t.now)) (λ e. GoodTy [] e (ty c.args.t.now)) (λ e. (good_true e (ty c.args.t.now), good_from e (ty c.args.t.now))) _ _ _ c.types.ensures c.new-inner.ensures.items c.is_good_type.result c.is_good_type.ensures.answer
