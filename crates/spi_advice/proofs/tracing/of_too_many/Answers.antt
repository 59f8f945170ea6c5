use Rattle.spi_advice.proofs.TraceLines.{long_trace}
use Rattle.spi_advice.proofs.tracing.of_too_many.Goals as goal

pub returns : goal.returns
returns c = long_trace c.in_ok-line.line.items c.refused_with.result c.refused_with.ensures.status
    c.refused_with.ensures.course c.refused_with.ensures.output c.in_ok-line.ensures
