use Rattle.spi_message.proofs.Tested.{typed_answer}
use Rattle.spi_message.proofs.numbered.is_typed.Goals as goal

pub returns-clause-answer : goal.returns-clause-answer
returns-clause-answer c = typed_answer c.args.judge.now c.args.m c.args.t c.has_type.result c.has_type.ensures.answer
