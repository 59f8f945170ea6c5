use Rattle.std.proofs.Common.{◌≡◌, [], map, take}
use Rattle.spi_tree.specs.Views.{decl_of}
use Rattle.spi_term.specs.Spelling.{stopped}
use Rattle.spi_scope.specs.Points.{decls_points, all_types}
use Rattle.spi_workbench.specs.Counting.{all_added}
use Rattle.spi_workbench.specs.Sizes.{Know}
use Rattle.spi_workbench.proofs.counting.declared_nodes.Given as goal

abbrev pub invariant-loop-decl : goal.invariant-loop-decl
invariant-loop-decl l =
    let front = map decl_of (take l.decl-index l.decls) in
    record {
      counted : l.total ≡ stopped (all_added (decls_points [] [] front));
      known : Know l.sizes (all_types [] [] front);
    }
