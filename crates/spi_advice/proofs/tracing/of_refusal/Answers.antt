use Rattle.std.proofs.Common.{inl}
use Rattle.spi_advice.proofs.TraceLines.{refused_trace}
use Rattle.spi_advice.proofs.tracing.of_refusal.Goals as goal

pub refusal_line-requires : goal.refusal_line-requires
refusal_line-requires c = rw c.in_ok-lines.ensures c.requires.refuses

pub returns : goal.returns
returns c =
    let line = rw c.in_ok-lines.ensures at c.in_ok-refusal_line.ensures in
    refused_trace c.args.bytes.now c.in_ok-refusal_line.field-0.items c.refused_with.result c.refused_with.ensures.status
    c.refused_with.ensures.course c.refused_with.ensures.output (line.0, inl line.1, line.2)
