use Rattle.std.proofs.Common.{◌≡◌, ◌+◌, ◌≤◌, ◌++◌, drop, map}
use Rattle.spi_tree.specs.Trees.{msgs_of_list}
use Rattle.spi_tree.specs.Views.{msg_of}
use Rattle.spi_term.specs.Spelling.{stopped}
use Rattle.spi_term.specs.View.{message}
use Rattle.spi_scope.specs.Parts.{numbered_messages}
use Rattle.spi_scope.specs.State.{row_nodes}
use Rattle.spi_scope.proofs.derivations.+numbered.Given as goal

abbrev pub invariant-read_all_numbered-loop-m : goal.invariant-read_all_numbered-loop-m
invariant-read_all_numbered-loop-m l =
    let rest = msgs_of_list (map msg_of (drop l.m-index l.ms)) in
    let all = msgs_of_list (map msg_of l.ms) in
    record {
      counted : stopped (l.total + row_nodes (numbered_messages rest)) ≡ stopped (l.spent + row_nodes (numbered_messages all));
      read : l.total ≤ 1000 → map message l.read.items ++ numbered_messages rest ≡ numbered_messages all;
      small : stopped l.total ≡ l.total;
    }
