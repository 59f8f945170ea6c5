use Rattle.spi_commands.proofs.AnswerNo.{none_derived}
use Rattle.spi_commands.proofs.DeriveAnswers.{refused}
use Rattle.spi_commands.proofs.derive.derived.Goals as goal

pub listed-requires-clause-canonical : goal.listed-requires-clause-canonical
listed-requires-clause-canonical c = rw c.in-Some.is at c.in_ok-d.ensures.canonical

pub returns-in-None-clause-ok : goal.returns-in-None-clause-ok
returns-in-None-clause-ok c = refused c.args.bytes.now c.args.file.now c.judged.result c.requires.read (none_derived _ _ c.in-None.is c.in_ok-d.ensures.some) c.judged.ensures.ok
