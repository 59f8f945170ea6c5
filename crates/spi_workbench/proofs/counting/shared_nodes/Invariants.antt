use Rattle.std.proofs.Common.{◌≡◌, ◌+◌, drop, map}
use Rattle.spi_term.specs.Spelling.{stopped}
use Rattle.spi_heading.specs.Views.{shared_of}
use Rattle.spi_workbench.specs.Sizes.{nodes_in_words, shared_size}
use Rattle.spi_workbench.proofs.counting.shared_nodes.Given as goal

abbrev pub invariant-loop-one : goal.invariant-loop-one
invariant-loop-one l =
    let z = nodes_in_words l.sizes in
    record {
      counted : stopped (l.total + shared_size z (map shared_of (drop l.one-index l.shared))) ≡ stopped (shared_size z (map shared_of l.shared));
      small : stopped l.total ≡ l.total;
    }
