use Rattle.spi_commands.proofs.RunEnds.{cut_short}
use Rattle.spi_commands.proofs.PlayAnswers.{left_same}
use Rattle.spi_commands.proofs.running.run_for.Goals as goal

pub returns-in-Ok-answer_to-clause-answer : goal.returns-in-Ok-answer_to-clause-answer
returns-in-Ok-answer_to-clause-answer g c =
    let prefix = rw c.deref.ensures.value at c.in-Err-WriteFault.ensures.prefix in
    let wanted = rw (c.in-Ok.ensures.value, c.len.ensures) at c.in-Ok-answer_to.ensures.answer in
    cut_short _ _ _ _ c.in-Ok-answer_to.answer.status c.in-Ok-answer_to.answer.output.items wanted prefix

pub returns-in_default-clause-left : goal.returns-in_default-clause-left
returns-in_default-clause-left g c = λ most only e none. left_same most only _ _
