use Rattle.std.proofs.Common.{◌≡◌, ◌++◌}
use Rattle.spi_tree.proofs.room.row.Given as goal

abbrev pub invariant-loop-item : goal.invariant-loop-item
invariant-loop-item g l = l.exact.items ++ l.item-iterator.rest.items ≡ l.fn.items.items
