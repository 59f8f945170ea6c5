use Rattle.std.proofs.Common.{refl, rules, None, string_bytes}
use Rattle.spi_report.specs.declared.refusal.Refusal.{Refusal}
use Rattle.spi_commands.specs.Refusals.{IsCause}
use Rattle.spi_commands.proofs.AnswerLines.{line_if}
use Rattle.spi_commands.proofs.answer.placeless.Goals as goal

pub returns-clause-ok : goal.returns-clause-ok
returns-clause-ok c =
    let r : Refusal = record { number = c.args.number; offset = None; shown = c.into_bytes.result } in
    line_if c.args.bytes.now (string_bytes c.args.shown) c.args.number None r (IsCause c.args.number None (string_bytes c.args.shown)) c.refusal.result (refl, refl, refl) refl refl (search rules) c.refusal.ensures.ok
