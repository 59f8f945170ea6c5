-- The process that the nodes of a tree make.
use Rattle.std.proofs.Common.{◌≡◌, ℕ, ◌≤◌, List, [], length, map, sym, ap, ◌∙◌, subst, arith}
use Rattle.std.specs.Prelude.{Ok}
use Rattle.std.proofs.lemmas.List.{length-map}
use Rattle.spi_tree.specs.Trees as t
use Rattle.spi_term.specs.Term.{Process, process_size}
use Rattle.spi_term.specs.Spelling.{Spelling, SpellsProcess, flat}
use Rattle.spi_term.specs.View.{shape_of, shapes_of}
use Rattle.spi_term.specs.declared.term.Node.{Node}
use Rattle.spi_term.proofs.Rows.{length_flat}
use Rattle.spi_term.proofs.Unique.{spelled_one}
use Rattle.spi_scope.specs.Scope.{Names, Abbreviations}
use Rattle.spi_scope.specs.Meaning.{process_in, process_over}
use Rattle.spi_scope.specs.Points.{process_points, decls_points, all_names, all_types}
use Rattle.spi_scope.specs.Gives.{run}
use Rattle.spi_scope.specs.Over.{AreAbbreviationsOver}
use Rattle.spi_scope.specs.StandsFor.{over_free}
use Rattle.spi_scope.proofs.Closing.{shapes_are}
use Rattle.spi_scope.proofs.Counting.{run_weight, process_weighs, names_weigh}
use Rattle.spi_scope.proofs.Indexing.{nodes_spell, all_over}

module _ (ts : Abbreviations) (xs : Names) (p : t.Proc) (ns : List Node) (nodes : map shape_of ns ≡ flat 0 (length xs) (process_in (λ i. i) ts xs p)) where
  -- as many as its size, which were counted
  pub few_nodes : (c d : ℕ) → run (process_points ts xs p) c ≡ Ok d → length ns ≤ d
  few_nodes c d ran =
      let q : Process = process_in (λ i. i) ts xs p in
      let n : length ns ≡ process_size q = sym (length-map ns shape_of) ∙ ap length nodes ∙ length_flat q 0 (length xs) in
      omega (arith, n, run_weight (process_points ts xs p) c d ran, process_weighs (λ i. i) ts xs p)

  shapes : flat 0 (length xs) (process_in (λ i. i) ts xs p) ≡ shapes_of ns
  shapes = sym (shapes_are ns ∙ nodes)

  pub spells : AreAbbreviationsOver (length xs) ts → (n : ℕ) → n ≡ length xs → SpellsProcess n (process_over (length xs) ts xs p) (shapes_of ns)
  spells over n e =
      subst (λ (k : ℕ). SpellsProcess k (process_over (length xs) ts xs p) (shapes_of ns)) (sym e)
      (subst (λ ss. SpellsProcess (length xs) (process_over (length xs) ts xs p) ss) shapes (nodes_spell ts xs over p))

  pub is_over_free : AreAbbreviationsOver (length xs) ts → (n : ℕ) → n ≡ length xs → (got : Spelling) → (got.names ≡ n) × SpellsProcess n got.process (shapes_of ns) → got ≡ over_free ts xs p
  is_over_free over n e got h =
      let s = spells over n e in
      let same : got.process ≡ process_over (length xs) ts xs p = spelled_one n got.process (process_over (length xs) ts xs p) h.1.0 s.0 (h.1.1 ∙ sym s.1) in
      let made : ℕ → Process → Spelling = λ k q. record { names = k; process = q } in
      ap (λ (k : ℕ). made k got.process) (h.0 ∙ e) ∙ ap (made (length xs)) same

-- behind the declarations the names are few, and the abbreviations stand for types over them
pub few_names : (ds : List t.Declared) (c : ℕ) (xs : Names) → run (decls_points [] [] ds) 0 ≡ Ok c → c ≤ 100000 → xs ≡ all_names [] ds → length xs ≤ 100000
few_names ds c xs ran few e =
    let n : length xs ≡ length (all_names [] ds) = ap length e in
    omega (arith, n, names_weigh [] [] ds, run_weight (decls_points [] [] ds) 0 c ran, few)

pub types_over : (ds : List t.Declared) (ts : Abbreviations) (xs : Names) → ts ≡ all_types [] [] ds → xs ≡ all_names [] ds → AreAbbreviationsOver (length xs) ts
types_over ds ts xs e f =
    subst (λ (ys : Names). AreAbbreviationsOver (length ys) ts) (sym f) (subst (λ us. AreAbbreviationsOver (length (all_names [] ds)) us) (sym e) (all_over [] [] ds tt))
