use Rattle.std.proofs.Common.{None}
use Rattle.std.specs.Fmt.{decimal}
use Rattle.spi_commands.specs.Refusals.{IsTooMuch, too_much}
use Rattle.spi_commands.proofs.AnswerLines.{cause_is}
use Rattle.spi_commands.proofs.answer.too_much.Goals as goal

pub returns-clause-ok : goal.returns-clause-ok
returns-clause-ok c = cause_is c.args.bytes.now (decimal c.args.count) 80 None (IsTooMuch c.args.count) c.refused_count.result (too_much c.requires.much) c.refused_count.ensures.ok
