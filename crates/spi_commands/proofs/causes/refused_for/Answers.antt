use Rattle.std.proofs.Common.{refl}
use Rattle.spi_commands.specs.declared.reading.Unread.TheVariants.{Refused}
use Rattle.spi_commands.specs.Reading.{IsCauseOf}
use Rattle.spi_commands.proofs.AnswerLines.{line_if}
use Rattle.spi_commands.proofs.causes.refused_for.Goals as goal

pub returns-in-Refused-clause-ok : goal.returns-in-Refused-clause-ok
returns-in-Refused-clause-ok c =
    let r = c.in-Refused.r in
    rw c.in-Refused.is (line_if c.args.bytes.now r.shown.items r.number r.offset r (IsCauseOf (Refused r)) c.refusal.result (refl, refl, refl) refl refl refl c.refusal.ensures.ok)
