use Rattle.std.proofs.Common.{true, subst}
use Rattle.spi_scope.specs.Files.{meant}
use Rattle.spi_commands.specs.declared.schedule.Ran.{Ran}
use Rattle.spi_commands.specs.Ran.{IsRan}
use Rattle.spi_commands.proofs.KnowsAnswers.{refused}
use Rattle.spi_commands.proofs.knows.known.Goals as goal

pub returns-in-Refused-clause-ok : goal.returns-in-Refused-clause-ok
returns-in-Refused-clause-ok c =
    refused c.args.name c.args.bytes.now c.in-Refused.line.items c.answer_with.result.output.items c.answer_with.result.status
    (subst (λ (r : Ran). IsRan c.args.bytes.now (meant c.args.file.now) true r) c.in-Refused.is c.in_ok-replay.ensures.ok) c.answer_with.ensures.status c.answer_with.ensures.output
