use Rattle.spi_commands.proofs.AnswerCommands.{answered_on, answered_whole, answered_memory, unlexed_answer}
use Rattle.spi_commands.proofs.answering.answers.Goals as goal

pub on_bytes-requires-clause-sized : goal.on_bytes-requires-clause-sized
on_bytes-requires-clause-sized g c = rw c.deref.ensures.value (rw c.in-Bytes.is at c.requires.text)

pub returns-in-Bytes-clause-answers : goal.returns-in-Bytes-clause-answers
returns-in-Bytes-clause-answers g c =
    rw c.in-Bytes.is (answered_on c.args.command c.in-Bytes.bytes.items _ _ c.on_bytes.result (rw c.deref.ensures.value at c.on_bytes.ensures.answers))

pub returns-in-Bytes-clause-answered : goal.returns-in-Bytes-clause-answered
returns-in-Bytes-clause-answered g c = answered_whole c.args.command _ _ _ c.on_bytes.result c.on_bytes.ensures.answers

pub returns-in-Bytes-clause-err : goal.returns-in-Bytes-clause-err
returns-in-Bytes-clause-err g c = answered_memory c.args.command _ _ _ c.on_bytes.result c.on_bytes.ensures.answers

pub returns-in-Refused-clause-answers : goal.returns-in-Refused-clause-answers
returns-in-Refused-clause-answers g c =
    rw c.in-Refused.is (λ bytes h. unlexed_answer c.args.command c.requires.reads bytes c.in-Refused.line.items _ _ _ c.answer_with.ensures.status c.answer_with.ensures.output h)
