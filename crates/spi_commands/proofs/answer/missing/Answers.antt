use Rattle.std.proofs.Common.{refl, rules, None}
use Rattle.spi_commands.specs.Refusals.{IsMissing, missing}
use Rattle.spi_commands.proofs.AnswerLines.{line_if}
use Rattle.spi_commands.proofs.answer.missing.Goals as goal

pub returns-clause-ok : goal.returns-clause-ok
returns-clause-ok c = line_if c.args.bytes.now _ 38 None (record { number = 38; offset = None; shown = c.in_ok-shown.shown }) (IsMissing c.args.part.now) c.refusal.result missing refl refl (search rules) c.refusal.ensures.ok
