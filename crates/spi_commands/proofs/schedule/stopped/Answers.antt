use Rattle.std.proofs.Common.{ap, Some, rules}
use Rattle.spi_text.specs.declared.lines.Span.{Span}
use Rattle.spi_commands.proofs.ScheduleRefusals.{scheduled_within, step_named}
use Rattle.spi_commands.proofs.schedule.stopped.Goals as goal

pub refusal_line-requires-clause-named : goal.refusal_line-requires-clause-named
refusal_line-requires-clause-named c = step_named c.args.refused.now.fault c.in-Some.told.number c.in-Some.ensures.0 c.in-Some.ensures.1

pub refusal_line-requires-clause-within : goal.refusal_line-requires-clause-within
refusal_line-requires-clause-within c = rw c.step_place-offset.ensures (scheduled_within c.args.bytes.now c.args.file.now c.args.refused.now.index c.requires.read)

pub returns-clause-ok : goal.returns-clause-ok
returns-clause-ok c = (
  c.in-Some.ensures.0,
  (
    record { number = c.in-Some.told.number; offset = Some c.step_place-offset.result.from; shown = c.into_bytes-shown.result },
    (c.in-Some.ensures.1, ap (λ (s : Span). Some s.from) c.step_place-offset.ensures, search rules),
    c.in_ok-line.ensures,
  ),
)
