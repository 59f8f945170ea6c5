use Rattle.std.proofs.Common.{length, ◌+◌, arith}
use Rattle.spi_commands.proofs.AnswerText.{text_fits, text_overflows}
use Rattle.spi_commands.proofs.answer.within_limit.Goals as goal

pub returns-then-count-clause-ok : goal.returns-then-count-clause-ok
returns-then-count-clause-ok c = text_fits c.args.bytes.now c.args.output.items (omega (arith, c.len.ensures, c.if-count.true))

pub returns-else-count-clause-ok : goal.returns-else-count-clause-ok
returns-else-count-clause-ok c = text_overflows c.args.bytes.now c.args.output.items (length c.args.bytes.now + 1 + c.len.result) c.too_much.result (omega (arith, c.len.ensures)) c.too_much.ensures.ok
