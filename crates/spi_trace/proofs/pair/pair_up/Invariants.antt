use Rattle.std.proofs.Common.{◌≡◌, length, map}
use Rattle.spi_run.specs.View.{event}
use Rattle.spi_trace.specs.Queue.{queue}
use Rattle.spi_trace.proofs.Running.{Running}
use Rattle.spi_trace.proofs.pair.pair_up.Given as goal

abbrev pub invariant-loop-place : goal.invariant-loop-place
invariant-loop-place l = record {
  size : length l.queues.items ≡ l.labels.bound;
  running : Running (map event l.events) l.labels.numbers.items l.place (map queue l.queues.items) l.from.items;
}
