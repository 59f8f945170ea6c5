use Rattle.std.proofs.Common.{◌≡◌, ◌∷◌, length, ap, ◌∙◌, sym, subst, arith}
use Rattle.spi_tree.specs.Trees as t
use Rattle.spi_tree.specs.Views.{ty_of, decl_of}
use Rattle.spi_term.specs.Spelling.{ty_nodes, stopped}
use Rattle.spi_scope.specs.Meaning.{type_in}
use Rattle.spi_scope.specs.Points.{types_behind}
use Rattle.spi_workbench.specs.Sizes.{Know}
use Rattle.spi_workbench.proofs.Sized.{free_added, type_sized, whole_type_adds}
use Rattle.spi_workbench.proofs.counting.declaration_nodes.Goals as goal

pub returns-in-Free-clause-nodes : goal.returns-in-Free-clause-nodes
returns-in-Free-clause-nodes c ts xs k =
    let w = c.in-Free in
    rw (ap decl_of w.is) (omega (arith, free_added xs (w.first ∷ w.more.items), c.len.ensures, c.saturating_add.ensures, w.more.ok.0))

pub returns-in_ok-know-in-Abbr-clause-nodes : goal.returns-in_ok-know-in-Abbr-clause-nodes
returns-in_ok-know-in-Abbr-clause-nodes c ts xs k =
    let w = c.in-Abbr in
    rw (ap decl_of w.is) (omega (arith, c.type_nodes-nodes.ensures, type_sized c.args.sizes.now ts k 0 xs (ty_of w.ty), whole_type_adds ts xs (ty_of w.ty)))

pub returns-in_ok-know-in-Abbr-clause-know : goal.returns-in_ok-know-in-Abbr-clause-know
returns-in_ok-know-in-Abbr-clause-know c ts xs k =
    let w = c.in-Abbr in
    let e : c.type_nodes-nodes.result ≡ stopped (ty_nodes (type_in (length xs) ts xs (ty_of w.ty))) = c.type_nodes-nodes.ensures ∙ type_sized c.args.sizes.now ts k (length xs) xs (ty_of w.ty) in
    subst (λ (d : t.Declared). Know c.know.new.sizes (types_behind ts xs d)) (sym (ap decl_of w.is)) (c.in_ok-know-in-Abbr.ensures ts (type_in (length xs) ts xs (ty_of w.ty)) e k)
