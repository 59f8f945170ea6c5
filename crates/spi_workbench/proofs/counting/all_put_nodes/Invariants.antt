use Rattle.std.proofs.Common.{◌≡◌, take, map}
use Rattle.spi_term.specs.Spelling.{stopped}
use Rattle.spi_edits.specs.Views.{edit_of}
use Rattle.spi_workbench.specs.Sizes.{nodes_in_words, edit_size}
use Rattle.spi_workbench.proofs.counting.all_put_nodes.Given as goal

abbrev pub invariant-loop-edit : goal.invariant-loop-edit
invariant-loop-edit l = l.nodes.items ≡ map (λ e. stopped (edit_size (nodes_in_words l.sizes) (edit_of e))) (take l.edit-index l.edits)
