-- One edit more.
use Rattle.std.proofs.Common.{◌≡◌, ℕ, ◌+◌, ◌<◌, ◌≤◌, List, [], ◌∷◌, ◌++◌, length, Bool, true, false, cond, refl, sym, ap, ◌∙◌, subst, arith}
use Rattle.std.specs.Prelude.{Option, Some, None, IsSome}
use Rattle.std.specs.Str.{bytes_eq}
use Rattle.spi_text.specs.declared.lines.Span.{Span}
use Rattle.spi_tree.specs.declared.tree.SWord.{SWord}
use Rattle.spi_tree.specs.Trees as t
use Rattle.spi_tree.specs.Views.{file_of}
use Rattle.spi_term.specs.Term.{process_size}
use Rattle.spi_term.specs.Spelling.{Spelling}
use Rattle.spi_scope.specs.First.{IsClean}
use Rattle.spi_scope.specs.Points.{process_points}
use Rattle.spi_scope.proofs.Counting.{process_weighs}
use Rattle.spi_bench.specs.Parts.{Part, Benched, part_named, with_part, without, nodes_in_parts}
use Rattle.spi_edits.specs.Edits.{Edit, puts, drops, Bench}
use Rattle.spi_workbench.specs.Reading.{file_with, free_names, abbreviations_of, part_names, part_meant, shared_types, edited, parts_after, bench_after}
use Rattle.spi_workbench.specs.Counting.{edit_nodes, part_nodes, nodes_put, bench_nodes}
use Rattle.spi_workbench.specs.Answers.{IsEditRefused, too_large, unknown}
use Rattle.spi_workbench.specs.declared.answer.Refusal.TheVariants.{BenchTooLarge, UnknownPart}
use Rattle.spi_workbench.specs.declared.judging.Work.{Work}
use Rattle.spi_workbench.specs.Work.{IsHeaded, IsAt, Comes}
use Rattle.spi_workbench.proofs.Heading.{weight_added}
use Rattle.spi_workbench.proofs.PartNodes.{more_names, as_many_types}

parts_last : (b : Bench) (ps : List Part) (es : List Edit) (e : Edit) → parts_after b ps (es ++ e ∷ []) ≡ edited b (parts_after b ps es) e
parts_last b ps [] e = refl
parts_last b ps (d ∷ es) e = parts_last b (edited b ps d) es e

put_last : (b : Bench) (es : List Edit) (e : Edit) → nodes_put b (es ++ e ∷ []) ≡ nodes_put b es + edit_nodes b e
put_last b [] e = omega arith
put_last b (d ∷ es) e = omega (arith, put_last b es e)

-- a part that replaces another makes the parts larger by its own nodes at most
with_few : (n : List ℕ) (p : Spelling) (ps : List Part) → nodes_in_parts (with_part n p ps) ≤ nodes_in_parts ps + process_size p.process
with_few n p [] = omega arith
with_few n p (q ∷ ps) = by (bytes_eq n q.name) (with_few n p ps)
  where
    by : (b : Bool) → nodes_in_parts (with_part n p ps) ≤ nodes_in_parts ps + process_size p.process → nodes_in_parts (cond b (record { name = n; part = p } ∷ ps) (q ∷ with_part n p ps)) ≤ process_size q.part.process + nodes_in_parts ps + process_size p.process
    by true h = omega arith
    by false h = omega (arith, h)

without_few : (n : List ℕ) (ps : List Part) → nodes_in_parts (without n ps) ≤ nodes_in_parts ps
without_few n [] = omega arith
without_few n (q ∷ ps) = by (bytes_eq n q.name) (without_few n ps)
  where
    by : (b : Bool) → nodes_in_parts (without n ps) ≤ nodes_in_parts ps → nodes_in_parts (cond b ps (q ∷ without n ps)) ≤ process_size q.part.process + nodes_in_parts ps
    by true h = omega arith
    by false h = omega (arith, h)

size_counted : (b : Bench) (p : t.Proc) → process_size (part_meant b p).process ≤ part_nodes b p
size_counted b p = omega (arith, process_weighs (λ s. length (part_names b)) (abbreviations_of b) (part_names b) p, weight_added (process_points (abbreviations_of b) (part_names b) p))

module _ (b : Bench) (before : List Edit) (w : Work) (at : IsAt b before w) where
  parts_are : w.bench.parts ≡ parts_after b [] before
  parts_are = ap (λ (x : Benched). x.parts) at.bench

  bench_next : (e : Edit) (x : Benched) (ps : List Part) → x ≡ record w.bench { parts = ps } → ps ≡ edited b w.bench.parts e → x ≡ bench_after b (before ++ e ∷ [])
  bench_next e x ps f g =
      let made : List Part → Benched = λ qs. record { free = length (free_names b); shared = shared_types b; parts = qs } in
      f ∙ ap (λ (y : Benched). record y { parts = ps }) at.bench ∙ ap made (g ∙ ap (λ qs. edited b qs e) parts_are ∙ sym (parts_last b [] before e))

  module _ (s : Span) (name : SWord) (p : t.Proc) where
    nodes_next : bench_nodes b (before ++ puts s name p ∷ []) ≡ w.count + part_nodes b p
    nodes_next = omega (arith, put_last b before (puts s name p), at.count)

    pub too_many : (n : ℕ) → IsClean (file_with b p) → n ≡ w.count + part_nodes b p → 100000 < n → IsEditRefused b before (puts s name p) (BenchTooLarge name.span n)
    too_many n clean e h =
        let f : n ≡ bench_nodes b (before ++ puts s name p ∷ []) = e ∙ sym nodes_next in
        subst (λ k. IsEditRefused b before (puts s name p) (BenchTooLarge name.span k)) (sym f) (too_large clean (omega (arith, f, h)))

    pub put_next : (w' : Work) → IsClean (file_with b p) → IsHeaded b w'.news (file_of w'.tree) → w'.bench ≡ record w.bench { parts = with_part name.word (part_meant b p) w.bench.parts } → w'.count ≡ w.count + part_nodes b p → w'.count ≤ 100000
        → Comes b before (puts s name p) w' None
    put_next w' clean tree bench count few =
        let held = ap (λ (x : Benched). nodes_in_parts x.parts) bench in (
          (clean, omega (arith, nodes_next, count, few)),
          record {
            tree = tree;
            bench = bench_next (puts s name p) w'.bench (with_part name.word (part_meant b p) w.bench.parts) bench refl;
            count = count ∙ sym nodes_next;
            few = few;
            held = omega (arith, held, with_few name.word (part_meant b p) w.bench.parts, size_counted b p, at.held, put_last b before (puts s name p));
          },
        )

  pub names_fit : (p : t.Proc) → (part_meant b p).names ≡ w.bench.free + length w.bench.shared
  names_fit p =
      let f = ap (λ (x : Benched). x.free) at.bench in
      let s : length w.bench.shared ≡ length (shared_types b) = ap (λ (x : Benched). length x.shared) at.bench in
      omega (arith, f, s, more_names (free_names b) b.shared, as_many_types (abbreviations_of b) (free_names b) b.shared)

  pub room : (p : t.Proc) → w.count + part_nodes b p ≤ 100000 → nodes_in_parts w.bench.parts + process_size (part_meant b p).process ≤ 100000
  room p h = omega (arith, h, at.held, at.count, size_counted b p)

  module _ (s : Span) (name : SWord) where
    pub none_there : part_named name.word w.bench.parts ≡ None → IsEditRefused b before (drops s name) (UnknownPart name.span name.word)
    none_there h = unknown (sym (ap (part_named name.word) parts_are) ∙ h)

    pub drop_next : (w' : Work) → IsSome (part_named name.word w.bench.parts) → IsHeaded b w'.news (file_of w'.tree) → w'.bench ≡ record w.bench { parts = without name.word w.bench.parts } → w'.count ≡ w.count → Comes b before (drops s name) w' None
    drop_next w' there tree bench count =
        let held = ap (λ (x : Benched). nodes_in_parts x.parts) bench in (
          subst (λ (ps : List Part). IsSome (part_named name.word ps)) parts_are there,
          record {
            tree = tree;
            bench = bench_next (drops s name) w'.bench (without name.word w.bench.parts) bench refl;
            count = omega (arith, count, at.count, put_last b before (drops s name));
            few = omega (arith, count, at.few);
            held = omega (arith, held, without_few name.word w.bench.parts, at.held, put_last b before (drops s name));
          },
        )

pub none_from : {A : Type 0} (o : Option A) → ((x : A) → o ≡ Some x → ⊥) → o ≡ None
none_from None h = refl
none_from (Some x) h = absurd (h x refl)

pub some_there : {A : Type 0} (o p : Option A) (x : A) → o ≡ p → o ≡ Some x → IsSome p
some_there o None x e f = let g : None ≡ Some x = sym e ∙ f in absurd (cc)
some_there o (Some y) x e f = refl
