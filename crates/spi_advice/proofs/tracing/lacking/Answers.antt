use Rattle.std.proofs.Common.{refl, rules, ◌∙◌, None}
use Rattle.spi_advice.proofs.TraceLines.{missing_line}
use Rattle.spi_advice.proofs.tracing.lacking.Goals as goal

pub returns-clause-line : goal.returns-clause-line
returns-clause-line c =
    missing_line c.args.part.now c.refused_with.result.output.items c.args.lines.now (record { number = 38; offset = None; shown = c.in_ok-to_vec.field-0 }) refl refl
    (search rules) (c.refused_with.ensures.output ∙ c.in_ok-line.ensures)
