use Rattle.spi_term.specs.View.{message}
use Rattle.spi_message.proofs.Tested.{labelled_test}
use Rattle.spi_message.proofs.testing.is_labelled.Goals as goal

pub returns-clause-answer : goal.returns-clause-answer
returns-clause-answer c =
    labelled_test c.args.judge.now c.message.new.self c.in_ok-id.id (message c.args.m.now) c.in_ok-id.ensures.kept c.in_ok-id.ensures.at c.is_label.result c.is_label.ensures.answer
