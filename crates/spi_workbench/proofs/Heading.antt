-- What the declarations, the shared names and a part count together, and what they are as one file.
use Rattle.std.proofs.Common.{◌≡◌, ℕ, ◌+◌, ◌≤◌, List, [], ◌∷◌, ◌++◌, length, refl, sym, ap, ◌∙◌, subst, arith}
use Rattle.spi_tree.specs.declared.tree.SProc.{SProc}
use Rattle.spi_tree.specs.declared.tree.Tree.{Tree}
use Rattle.spi_tree.specs.Trees as t
use Rattle.spi_tree.specs.Views.{proc_of, file_of}
use Rattle.spi_heading.specs.Headings.{Shared, with_shared}
use Rattle.spi_term.specs.Spelling.{Spelling}
use Rattle.spi_scope.specs.Scope.{Names, Abbreviations}
use Rattle.spi_scope.specs.Points.{Point, Points, none, one, ◌⨾◌, in_order, process_points, decls_points, file_points}
use Rattle.spi_scope.specs.First.{count_points, IsClean}
use Rattle.spi_scope.specs.Over.{AreAbbreviationsOver}
use Rattle.spi_scope.specs.StandsFor.{StandsFor, Meant}
use Rattle.spi_scope.proofs.Counting.{weight, names_weigh}
use Rattle.spi_scope.proofs.Firsts.{counted_few}
use Rattle.spi_scope.proofs.Indexing.{all_over}
use Rattle.spi_edits.specs.Edits.{Bench}
use Rattle.spi_workbench.specs.Reading.{behind_shared, file_with, free_names, abbreviations_of, part_meant}
use Rattle.spi_workbench.specs.Counting.{all_added, shared_points, heading_nodes, part_nodes}
use Rattle.spi_workbench.specs.Behind.{StandsBehind}
use Rattle.spi_workbench.specs.Work.{IsHeaded}
use Rattle.spi_workbench.proofs.PartNodes.{stands_behind}
use Rattle.spi_workbench.proofs.Sized.{new_head_adds}

count_append : (ps qs : List Point) → count_points (ps ++ qs) ≡ count_points ps + count_points qs
count_append [] qs = omega arith
count_append (p ∷ ps) qs = omega (arith, count_append ps qs)

count_added : (ps : Points) → count_points (in_order ps) ≡ all_added ps
count_added none = refl
count_added (one p) = omega arith
count_added (ps ⨾ qs) = omega (arith, count_append (in_order ps) (in_order qs), count_added ps, count_added qs)

pub weight_added : (ps : Points) → weight ps ≡ all_added ps
weight_added none = refl
weight_added (one p) = refl
weight_added (ps ⨾ qs) = omega (arith, weight_added ps, weight_added qs)

behind_added : (ts : Abbreviations) (xs : Names) (ss : List Shared) (p : t.Proc) → all_added (process_points ts xs (behind_shared ss p)) ≡ all_added (shared_points ts xs ss) + all_added (process_points ts (with_shared xs ss) p)
behind_added ts xs [] p = omega arith
behind_added ts xs (s ∷ ss) p = omega (arith, behind_added ts (s.name.word ∷ xs) ss p)

many_shared : (ts : Abbreviations) (xs : Names) (ss : List Shared) → length ss ≤ all_added (shared_points ts xs ss)
many_shared ts xs [] = omega arith
many_shared ts xs (s ∷ ss) = omega (arith, new_head_adds ts xs s.span s.ty, many_shared ts (s.name.word ∷ xs) ss)

module _ (b : Bench) where
  pub file_added : (p : t.Proc) → all_added (file_points (file_with b p)) ≡ heading_nodes b + part_nodes b p
  file_added p = omega (arith, behind_added (abbreviations_of b) (free_names b) b.shared p)

  pub clean_nodes : (p : t.Proc) → IsClean (file_with b p) → heading_nodes b + part_nodes b p ≤ 100000
  clean_nodes p h = omega (arith, counted_few (in_order (file_points (file_with b p))) 0 (omega arith) h, count_added (file_points (file_with b p)), file_added p)

  pub names_counted : length (free_names b) + length b.shared ≤ heading_nodes b
  names_counted = omega (arith, names_weigh [] [] b.decls, weight_added (decls_points [] [] b.decls), many_shared (abbreviations_of b) (free_names b) b.shared)

  pub over : AreAbbreviationsOver (length (free_names b)) (abbreviations_of b)
  over = all_over [] [] b.decls tt

  pub part_stands : (p : t.Proc) (f : Meant) → StandsFor (file_with b p) f → StandsBehind (length b.shared) f.process (part_meant b p)
  part_stands p f h = subst (λ (w : Spelling). StandsBehind (length b.shared) w (part_meant b p)) (sym h.process) (stands_behind (abbreviations_of b) (free_names b) b.shared p over)

  -- another process in the place of the one that was read
  pub put_tree : (news : ℕ) (tree : Tree) (place part : SProc) → ((ss : List Shared) (p : t.Proc) → length ss ≡ news → proc_of tree.process ≡ behind_shared ss p → proc_of place ≡ behind_shared ss (proc_of part))
      → IsHeaded b news (file_of tree) → file_of (record tree { process = place }) ≡ file_with b (proc_of part)
  put_tree news tree place part put h =
      let p = h.1.0 in
      let old : proc_of tree.process ≡ behind_shared b.shared p = ap (λ (f : t.File). f.process) h.1.1 in
      let new = put b.shared p h.0 old in
      ap (λ (f : t.File). record f { process = proc_of place }) h.1.1 ∙ ap (λ (q : t.Proc). record (file_with b p) { process = q }) new
