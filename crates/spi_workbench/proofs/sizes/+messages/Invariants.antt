use Rattle.std.proofs.Common.{◌≡◌, ◌+◌, drop, map}
use Rattle.spi_tree.specs.Trees.{msgs_of_list}
use Rattle.spi_tree.specs.Views.{msg_of}
use Rattle.spi_term.specs.Spelling.{stopped}
use Rattle.spi_workbench.specs.Sizes.{msgs_size}
use Rattle.spi_workbench.proofs.sizes.+messages.Given as goal

abbrev pub invariant-messages_nodes-loop-m : goal.invariant-messages_nodes-loop-m
invariant-messages_nodes-loop-m l =
    record {
      counted : stopped (l.total + msgs_size (msgs_of_list (map msg_of (drop l.m-index l.ms)))) ≡ stopped (msgs_size (msgs_of_list (map msg_of l.ms)));
      small : stopped l.total ≡ l.total;
    }
