use Rattle.std.proofs.Common.{◌≡◌, ◌+◌, ◌≤◌, ◌++◌, drop, map}
use Rattle.spi_tree.specs.Trees.{msgs_of_list}
use Rattle.spi_tree.specs.Views.{msg_of}
use Rattle.spi_term.specs.Spelling.{stopped}
use Rattle.spi_term.specs.View.{message}
use Rattle.spi_scope.specs.Meaning.{messages_in}
use Rattle.spi_scope.specs.Points.{messages_points}
use Rattle.spi_scope.specs.Gives.{run}
use Rattle.spi_scope.specs.State.{row_nodes}
use Rattle.spi_scope.proofs.messages.+messages.Given as goal

abbrev pub invariant-read_messages-loop-m : goal.invariant-read_messages-loop-m
invariant-read_messages-loop-m l =
    let xs = l.scope.held.names in
    let rest = msgs_of_list (map msg_of (drop l.m-index l.ms)) in
    let all = msgs_of_list (map msg_of l.ms) in
    record {
      ran : run (messages_points xs rest) l.scope.count ≡ run (messages_points xs all) l.scope.count;
      counted : stopped (l.total + row_nodes (messages_in l.base xs rest)) ≡ stopped (l.spent + row_nodes (messages_in l.base xs all));
      read : l.total ≤ 1000 → map message l.read.items ++ messages_in l.base xs rest ≡ messages_in l.base xs all;
      small : stopped l.total ≡ l.total;
    }
