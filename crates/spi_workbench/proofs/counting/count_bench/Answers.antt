use Rattle.std.proofs.Common.{◌≡◌, [], List, map, ap, ◌∙◌, subst, arith}
use Rattle.std.specs.Map.{lookup}
use Rattle.std.specs.Str.{bytes_eq}
use Rattle.spi_tree.specs.declared.tree.Decl.{Decl}
use Rattle.spi_tree.specs.Views.{decl_of}
use Rattle.spi_term.specs.Spelling.{stopped}
use Rattle.spi_heading.specs.declared.shared.Shared.{Shared}
use Rattle.spi_heading.specs.Views.{shared_of}
use Rattle.spi_edits.specs.declared.text.Edit.{Edit}
use Rattle.spi_edits.specs.Views.{edit_of, bench_of}
use Rattle.spi_scope.specs.Points.{decls_points, all_types}
use Rattle.spi_workbench.specs.Reading.{free_names, abbreviations_of}
use Rattle.spi_workbench.specs.Counting.{all_added}
use Rattle.spi_workbench.specs.Sizes.{nodes_in_words, shared_size, edit_size, Know}
use Rattle.spi_workbench.proofs.Sized.{shared_sized, edits_sized}
use Rattle.spi_workbench.proofs.counting.count_bench.Goals.{After-deref-2}
use Rattle.spi_workbench.proofs.counting.count_bench.Goals as goal

knows_all : (c : After-deref-2) → Know c.declared_nodes.new.sizes (abbreviations_of (bench_of c.args.text.now))
knows_all c = subst (λ (ds : List Decl). Know c.declared_nodes.new.sizes (all_types [] [] (map decl_of ds))) c.deref.ensures.value c.in_ok-declared.ensures.know

pub declared_nodes-requires : goal.declared_nodes-requires
declared_nodes-requires c w = ap (lookup (λ j. bytes_eq w j.now)) c.new-sizes.ensures.empty

pub returns-clause-heading : goal.returns-clause-heading
returns-clause-heading c =
    let b = bench_of c.args.text.now in
    let m = c.declared_nodes.new.sizes in
    let a : c.in_ok-declared.declared ≡ stopped (all_added (decls_points [] [] b.decls)) = c.in_ok-declared.ensures.nodes ∙ ap (λ (ds : List Decl). stopped (all_added (decls_points [] [] (map decl_of ds)))) c.deref.ensures.value in
    let s : c.shared_nodes.result ≡ stopped (shared_size (nodes_in_words m) b.shared) = c.shared_nodes.ensures ∙ ap (λ (ss : List Shared). stopped (shared_size (nodes_in_words m) (map shared_of ss))) c.deref-2.ensures.value in
    let k = knows_all (goal.at.returns-clause-heading c).After-deref-2 in
    omega (arith, a, s, shared_sized m (abbreviations_of b) k (free_names b) b.shared, c.saturating_add-heading.ensures)

pub returns-clause-edits : goal.returns-clause-edits
returns-clause-edits c =
    let b = bench_of c.args.text.now in
    let m = c.declared_nodes.new.sizes in
    c.in_ok-edits.ensures ∙ ap (λ (es : List Edit). map (λ e. stopped (edit_size (nodes_in_words m) (edit_of e))) es) c.deref-3.ensures.value
    ∙ edits_sized m b c.args.text.now.edits.items (knows_all (goal.at.returns-clause-edits c).After-deref-2)
