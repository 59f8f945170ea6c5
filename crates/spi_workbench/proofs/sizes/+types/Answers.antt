use Rattle.std.proofs.Common.{arith, ◌≡◌, ap, ◌∙◌, map}
use Rattle.spi_tree.specs.Trees.{fields_of_list}
use Rattle.spi_tree.specs.Views.{ty_of, field_of, last_of}
use Rattle.spi_tree.specs.declared.tree.STy.TheVariants.{Tuple}
use Rattle.spi_tree.specs.declared.tree.TyParts.{out-TyParts}
use Rattle.spi_tree.proofs.Rows.{tuple_ty_is}
use Rattle.spi_term.specs.Spelling.{stopped}
use Rattle.spi_workbench.specs.Sizes.{nodes_in_words, ty_size, fields_size, last_size}
use Rattle.spi_workbench.proofs.sizes.+types.Goals as goal

pub type_nodes-returns-in-Tuple : goal.type_nodes-returns-in-Tuple
type_nodes-returns-in-Tuple t c =
    let w = c.in-Tuple in
    let z = nodes_in_words c.args.sizes.now in
    let p = out-TyParts w.parts.now in
    let e : c.args.t.now ≡ Tuple w.parts w.span = w.is in
    let a : c.type_nodes.result ≡ stopped (ty_size z (ty_of p.first)) = c.type_nodes.ensures in
    let b : c.fields_nodes.result ≡ stopped (fields_size z (fields_of_list (map field_of p.more.now))) = c.fields_nodes.ensures in
    let l : c.last_nodes-last.result ≡ stopped (last_size z (last_of p.last)) = c.last_nodes-last.ensures in
    rw (ap ty_of e ∙ tuple_ty_is w.parts w.span) (omega (arith, a, b, l, c.saturating_add-rest.ensures, c.one_over.ensures))
