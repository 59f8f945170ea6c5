use Rattle.spi_term.specs.View.{ty}
use Rattle.spi_message.proofs.Tested.{good_test}
use Rattle.spi_message.proofs.testing.is_good.Goals as goal

pub returns-clause-answer : goal.returns-clause-answer
returns-clause-answer c =
    good_test c.args.judge.now c.ty.new.self c.in_ok-id.id (ty c.args.t.now) c.in_ok-id.ensures.kept c.in_ok-id.ensures.at c.good_type.result c.good_type.ensures.answer
