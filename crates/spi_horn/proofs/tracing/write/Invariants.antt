use Rattle.spi_horn.specs.Needs.{AreMarkedWritten}
use Rattle.spi_horn.proofs.tracing.write.Given as goal

abbrev pub invariant-loop-t : goal.invariant-loop-t
invariant-loop-t l = AreMarkedWritten l.fn.rules l.fn.closure.order.items l.fn.closure.places.items l.fn.marks l.t l.lines.items l.line_at.items
