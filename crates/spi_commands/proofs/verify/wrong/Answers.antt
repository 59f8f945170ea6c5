use Rattle.std.proofs.Common.{◌∙◌}
use Rattle.spi_commands.proofs.VerifyAnswers.{use_within, wrong_line}
use Rattle.spi_commands.proofs.verify.wrong.Goals as goal

pub wrong_step-requires : goal.wrong_step-requires
wrong_step-requires c = rw c.for_few-lines.ensures (use_within c.args.bytes.now c.args.file.now c.args.index c.requires.read)

pub returns-clause-ok : goal.returns-clause-ok
returns-clause-ok c = (c.answer_with.ensures.status, wrong_line c.args.bytes.now c.answer_with.result.output.items c.args.file.now c.requires.wrong.0 c.args.index c.requires.read c.requires.wrong.1 c.requires.wrong.2 (c.answer_with.ensures.output ∙ rw c.for_few-lines.ensures at c.in_ok-output.ensures))
