use Rattle.std.proofs.Common.{refl, ap, ◌∙◌, Some}
use Rattle.spi_text.specs.declared.lines.Span.{Span}
use Rattle.spi_commands.proofs.AnswerOffence.{node_within}
use Rattle.spi_advice.proofs.TraceLines.{offence_line}
use Rattle.spi_advice.proofs.tracing.offending.Goals as goal

pub refused-requires-clause-within : goal.refused-requires-clause-within
refused-requires-clause-within c =
    rw c.requires.lines (rw c.opponent_place-offset.ensures (node_within c.args.bytes.now c.args.file.now c.args.node c.requires.read))

pub returns-clause-line : goal.returns-clause-line
returns-clause-line c =
    offence_line c.args.bytes.now c.refused_with.result.output.items c.args.file.now c.args.node (record { number = 39; offset = Some c.opponent_place-offset.result.from; shown = c.new.result })
    c.requires.read c.requires.untold refl (ap (λ (s : Span). Some s.from) c.opponent_place-offset.ensures) c.new.ensures.items
    (c.refused_with.ensures.output ∙ (rw c.requires.lines at c.in_ok-line.ensures))
