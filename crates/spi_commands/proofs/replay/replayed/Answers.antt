use Rattle.std.proofs.Common.{false, subst}
use Rattle.spi_scope.specs.Files.{meant}
use Rattle.spi_commands.specs.declared.schedule.Ran.{Ran}
use Rattle.spi_commands.specs.Ran.{IsRan}
use Rattle.spi_commands.proofs.ReplayAnswers.{judged, refused}
use Rattle.spi_commands.proofs.replay.replayed.Goals as goal

pub judged-answer-requires : goal.judged-answer-requires
judged-answer-requires c = rw c.deref.ensures.value (subst (λ (r : Ran). IsRan c.args.bytes.now (meant c.args.file.now) false r) c.in-Through.is c.in_ok-replay.ensures.ok).3

pub returns-in-Through-clause-ok : goal.returns-in-Through-clause-ok
returns-in-Through-clause-ok c =
    judged c.args.bytes.now c.args.file.now c.in-Through.replay c.judged-answer.result c.requires.read
    (subst (λ (r : Ran). IsRan c.args.bytes.now (meant c.args.file.now) false r) c.in-Through.is c.in_ok-replay.ensures.ok) (rw c.deref.ensures.value at c.judged-answer.ensures.ok)

pub returns-in-Refused-clause-ok : goal.returns-in-Refused-clause-ok
returns-in-Refused-clause-ok c =
    refused c.args.bytes.now c.in-Refused.line.items c.answer_with.result.output.items c.answer_with.result.status
    (subst (λ (r : Ran). IsRan c.args.bytes.now (meant c.args.file.now) false r) c.in-Refused.is c.in_ok-replay.ensures.ok) c.answer_with.ensures.status c.answer_with.ensures.output
