use Rattle.std.proofs.Common.{string_bytes}
use Rattle.std.specs.Fmt.{decimal}
use Rattle.spi_commands.proofs.AnswerLines.{cause_shown}
use Rattle.spi_commands.proofs.answer.refused_count.Goals as goal

pub returns-clause-ok : goal.returns-clause-ok
returns-clause-ok c = cause_shown c.args.bytes.now (decimal c.args.count) (string_bytes c.in_ok-shown.shown) c.args.number c.placeless.result c.in_ok-shown.ensures.ok c.placeless.ensures.ok
