use Rattle.std.proofs.Common.{◌+◌, ◌≤◌, map, drop, length}
use Rattle.spi_term.specs.View.{message}
use Rattle.spi_know.specs.Numbered.{AreFirstNumbers, nodes_in}
use Rattle.spi_know.proofs.deciding.number_sent.Given as goal

abbrev pub invariant-loop-m : goal.invariant-loop-m
invariant-loop-m l = record {
  numbers : AreFirstNumbers l.store.messages (map message l.sent) l.m-index l.start.items;
  few : length l.store.messages + nodes_in (drop l.m-index (map message l.sent)) ≤ nodes_in (map message l.sent);
}
