use Rattle.spi_message.proofs.Tested.{labelled_answer}
use Rattle.spi_message.proofs.numbered.is_labelled.Goals as goal

pub returns-clause-answer : goal.returns-clause-answer
returns-clause-answer c = labelled_answer c.args.judge.now c.args.m c.is_label.result c.is_label.ensures.answer
