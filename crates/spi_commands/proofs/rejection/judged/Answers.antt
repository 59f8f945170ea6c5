use Rattle.spi_commands.proofs.AnswerNo.{none_derivable, rejected_verdict}
use Rattle.spi_commands.proofs.rejection.judged.Goals as goal

pub returns-clause-ok : goal.returns-clause-ok
returns-clause-ok c = rejected_verdict c.args.bytes.now c.args.file.now c.rejected.result (none_derivable _ c.in-Some.fault _ c.in-Some.is c.in_ok-explain.ensures.exact) c.rejected.ensures.ok
