use Rattle.std.proofs.Common.{◌≡◌, ◌++◌, map, take}
use Rattle.spi_tree.specs.Views.{msg_of}
use Rattle.spi_tree.specs.Listed.{joined, more_list}
use Rattle.spi_tree.proofs.listed_types.+messages.Given as goal

abbrev pub invariant-put_messages-loop-message : goal.invariant-put_messages-loop-message
invariant-put_messages-loop-message l = l.out.items ≡ l.fn.out.items ++ joined more_list (map msg_of (take l.message-index l.messages))
