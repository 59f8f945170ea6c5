use Rattle.std.proofs.Common.{◌≡◌, map, replicate}
use Rattle.spi_trace.specs.Queue.{queue, no_begins}
use Rattle.spi_trace.proofs.queue.empty.Given as goal

abbrev pub invariant-loop-number : goal.invariant-loop-number
invariant-loop-number l = map queue l.queues.items ≡ replicate l._number no_begins
