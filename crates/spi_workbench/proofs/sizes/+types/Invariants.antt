use Rattle.std.proofs.Common.{◌≡◌, ◌+◌, drop, map}
use Rattle.spi_tree.specs.Trees.{fields_of_list}
use Rattle.spi_tree.specs.Views.{field_of}
use Rattle.spi_term.specs.Spelling.{stopped}
use Rattle.spi_workbench.specs.Sizes.{nodes_in_words, fields_size}
use Rattle.spi_workbench.proofs.sizes.+types.Given as goal

abbrev pub invariant-fields_nodes-loop-f : goal.invariant-fields_nodes-loop-f
invariant-fields_nodes-loop-f l =
    let z = nodes_in_words l.sizes in
    record {
      counted : stopped (l.total + fields_size z (fields_of_list (map field_of (drop l.f-index l.fs)))) ≡ stopped (fields_size z (fields_of_list (map field_of l.fs)));
      small : stopped l.total ≡ l.total;
    }
