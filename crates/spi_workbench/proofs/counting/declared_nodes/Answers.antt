use Rattle.std.proofs.Common.{[], take, map}
use Rattle.spi_tree.specs.Views.{decl_of}
use Rattle.spi_scope.specs.Points.{all_types, all_names}
use Rattle.spi_workbench.proofs.Knowing.{known_next, counted_next}
use Rattle.spi_workbench.proofs.counting.declared_nodes.Goals as goal

pub loop-decl-preserved : goal.loop-decl-preserved
loop-decl-preserved c =
    let m = c.loop-decl.sizes in
    let m' = c.declaration_nodes.new.sizes in
    let i = c.loop-decl.decl-index in
    let ds = map decl_of (take i c.args.decls.now) in
    let ts = all_types [] [] ds in
    let xs = all_names [] ds in
    record {
      counted = counted_next m m' c.args.decls.now i c.decl-item.result c.loop-decl-test.true c.decl-item.is c.loop-decl.total c.in_ok-declaration_nodes.field-0 c.saturating_add-total.result
          c.loop-decl.invariant.counted (c.in_ok-declaration_nodes.ensures.nodes ts xs c.loop-decl.invariant.known) c.saturating_add-total.ensures;
      known = known_next m m' c.args.decls.now i c.decl-item.result c.loop-decl-test.true c.decl-item.is (c.in_ok-declaration_nodes.ensures.know ts xs c.loop-decl.invariant.known);
    }
