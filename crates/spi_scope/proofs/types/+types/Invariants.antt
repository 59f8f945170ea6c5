use Rattle.std.proofs.Common.{◌≡◌, ◌+◌, ◌≤◌, ◌++◌, drop, map}
use Rattle.spi_tree.specs.Trees.{fields_of_list}
use Rattle.spi_tree.specs.Views.{field_of}
use Rattle.spi_term.specs.Spelling.{stopped}
use Rattle.spi_term.specs.View.{ty}
use Rattle.spi_scope.specs.Meaning.{fields_in, behind}
use Rattle.spi_scope.specs.Points.{fields_points}
use Rattle.spi_scope.specs.Gives.{run}
use Rattle.spi_scope.specs.State.{abbreviations, type_row_nodes}
use Rattle.spi_scope.proofs.types.+types.Given as goal

abbrev pub invariant-read_fields-loop-f : goal.invariant-read_fields-loop-f
invariant-read_fields-loop-f l =
    let ts = abbreviations l.fn.scope.types in
    let rest = fields_of_list (map field_of (drop l.f-index l.fs)) in
    let all = fields_of_list (map field_of l.fs) in
    record {
      ran : run (fields_points ts l.scope.held.names rest) l.fn.scope.count ≡ run (fields_points ts l.fn.scope.held.names all) l.fn.scope.count;
      counted : stopped (l.total + type_row_nodes (fields_in l.base ts l.scope.held.names rest)) ≡ stopped (l.spent + type_row_nodes (fields_in l.base ts l.fn.scope.held.names all));
      read : l.total ≤ 1000 → map ty l.read.items ++ fields_in l.base ts l.scope.held.names rest ≡ fields_in l.base ts l.fn.scope.held.names all;
      names : behind l.scope.held.names rest ≡ behind l.fn.scope.held.names all;
      noted : l.scope.held.noted ≡ l.fn.scope.held.noted;
      types : l.scope.types ≡ l.fn.scope.types;
      same_count : l.scope.count ≡ l.fn.scope.count;
      small : stopped l.total ≡ l.total;
    }
