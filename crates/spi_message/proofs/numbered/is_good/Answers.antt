use Rattle.spi_message.proofs.Tested.{good_answer}
use Rattle.spi_message.proofs.numbered.is_good.Goals as goal

pub returns-clause-answer : goal.returns-clause-answer
returns-clause-answer c = good_answer c.args.judge.now c.args.t c.good_type.result c.good_type.ensures.answer
