-- The bench before any edit.
use Rattle.std.proofs.Common.{◌≡◌, ℕ, zero, suc, ◌+◌, ◌≤◌, List, [], ◌∷◌, length, map, take, sym, ap, ◌∙◌, subst, arith}
use Rattle.std.specs.List.{All, AllByRecursion}
use Rattle.std.proofs.lemmas.List.{length-map}
use Rattle.std.proofs.lemmas.List.Elements.{All-from_recursion}
use Rattle.spi_tree.specs.Trees as t
use Rattle.spi_heading.specs.Headings.{Shared}
use Rattle.spi_term.specs.Term.{Ty, process_size, Recvs, Serves, Splits, Selects, Decrypts, Checks, Begins, Ends, EndManys, Casts, Freshes}
use Rattle.spi_term.specs.Spelling.{Shape, leaf_at, prefix_at, fork_at, Spelling, spelled, ty_nodes, HasSmallParts, HaveSmallParts}
use Rattle.spi_term.specs.View.{ty}
use Rattle.spi_term.specs.declared.term.Ty.{Ty as TyValue}
use Rattle.spi_scope.specs.Scope.{Names, Abbreviations}
use Rattle.spi_scope.specs.Meaning.{process_in}
use Rattle.spi_scope.specs.Over.{AreAbbreviationsOver}
use Rattle.spi_scope.specs.StandsFor.{StandsFor, Meant}
use Rattle.spi_scope.proofs.Indexing.{nodes_spell, more_over}
use Rattle.spi_bench.specs.Whole as Whole
use Rattle.spi_bench.specs.Parts.{Benched}
use Rattle.spi_edits.specs.Edits.{Bench}
use Rattle.spi_workbench.specs.Reading.{behind_shared, file_with, free_names, abbreviations_of, types_in, shared_types, bench_after}
use Rattle.spi_workbench.specs.Behind.{type_made}
use Rattle.spi_workbench.proofs.PartNodes.{as_many_types, types_stand}
use Rattle.spi_workbench.proofs.Heading.{clean_nodes, names_counted, over}

size_behind : (k : ℕ) (ts : Abbreviations) (xs : Names) (ss : List Shared) (p : t.Proc) → length ss ≤ process_size (process_in (λ s. k) ts xs (behind_shared ss p))
size_behind k ts xs [] p = omega arith
size_behind k ts xs (s ∷ ss) p = omega (arith, size_behind k ts (s.name.word ∷ xs) ss p)

types_over : (ts : Abbreviations) (xs : Names) (ss : List Shared) → AreAbbreviationsOver (length xs) ts → Whole.AreOver (length xs) (types_in ts xs ss)
types_over ts xs [] o = tt
types_over ts xs (s ∷ ss) o =
    let ys : Names = s.name.word ∷ xs in
    ((nodes_spell ts xs o (t.new s.span s.name s.ty (t.stop s.span))).0.0, types_over ts ys ss (more_over (length xs) (length ys) (omega arith) ts o))

few_made : (x : Shape) → HasSmallParts x → ty_nodes (type_made x) ≤ 10000
few_made (leaf_at k l) h = omega arith
few_made (prefix_at k (Recvs m t) b) h = omega arith
few_made (prefix_at k (Serves m t) b) h = omega arith
few_made (prefix_at k (Splits m t u) b) h = omega arith
few_made (prefix_at k (Selects m t e u) b) h = omega arith
few_made (prefix_at k (Decrypts m t e) b) h = omega arith
few_made (prefix_at k (Checks m e) b) h = omega arith
few_made (prefix_at k (Begins m) b) h = omega arith
few_made (prefix_at k (Ends m) b) h = omega arith
few_made (prefix_at k (EndManys m) b) h = omega arith
few_made (prefix_at k (Casts m t) b) h = omega arith
few_made (prefix_at k (Freshes t) b) h = h
few_made (fork_at k f a r) h = omega arith

few_types : (vs : List TyValue) (ss : List Shape) (n : ℕ) → map ty vs ≡ map type_made (take n ss) → HaveSmallParts ss → AllByRecursion (λ v. ty_nodes (ty v) ≤ 10000) vs
few_types [] ss n e h = tt
few_types (v ∷ vs) ss zero e h = absurd (cc)
few_types (v ∷ vs) [] (suc n) e h = absurd (cc)
few_types (v ∷ vs) (x ∷ ss) (suc n) e h =
    let f : ty v ≡ type_made x = cc in
    let g : map ty vs ≡ map type_made (take n ss) = cc in
    (omega (arith, ap ty_nodes f, few_made x h.0), few_types vs ss n g h.1)

pub small_types : (vs : List TyValue) (ss : List Shape) (n : ℕ) → map ty vs ≡ map type_made (take n ss) → HaveSmallParts ss → All (λ v. ty_nodes (ty v) ≤ 10000) vs
small_types vs ss n e h = All-from_recursion (λ v. ty_nodes (ty v) ≤ 10000) vs (few_types vs ss n e h)

module _ (b : Bench) (p : t.Proc) (f : Meant) (h : StandsFor (file_with b p) f) (news : ℕ) (n : length b.shared ≡ news) where
  pub enough : news ≤ process_size f.process.process
  enough = omega (arith, n, ap (λ (q : Spelling). process_size q.process) h.process, size_behind (length (free_names b)) (abbreviations_of b) (free_names b) b.shared p)

  pub names_are : f.process.names ≡ length (free_names b)
  names_are = ap (λ (q : Spelling). q.names) h.process

  pub few_names : f.process.names + length b.shared ≤ 100000
  few_names = omega (arith, names_are, names_counted b, clean_nodes b p h.clean)

  module _ (vs : List TyValue) (e : map ty vs ≡ map type_made (take news (spelled f.process.names f.process.process))) where
    pub types_are : map ty vs ≡ shared_types b
    types_are =
        e ∙ ap (λ (q : Spelling). map type_made (take news (spelled q.names q.process))) h.process
        ∙ ap (λ m. map type_made (take m (spelled (length (free_names b)) (process_in (λ s. length (free_names b)) (abbreviations_of b) (free_names b) (behind_shared b.shared p))))) (sym n)
        ∙ types_stand (abbreviations_of b) (free_names b) b.shared p (over b)

    pub many_types : length vs ≡ length b.shared
    many_types = sym (length-map vs ty) ∙ ap length types_are ∙ as_many_types (abbreviations_of b) (free_names b) b.shared

    pub are_over : (k : ℕ) → k ≡ f.process.names → Whole.AreOver k (map ty vs)
    are_over k g =
        subst (λ l. Whole.AreOver k l) (sym types_are) (subst (λ m. Whole.AreOver m (shared_types b)) (sym (g ∙ names_are)) (types_over (abbreviations_of b) (free_names b) b.shared (over b)))

    pub is_first : (k : ℕ) (q : Benched) → k ≡ f.process.names → q ≡ record { free = k; shared = map ty vs; parts = [] } → q ≡ bench_after b []
    is_first k q g i =
        let made : ℕ → List Ty → Benched = λ m ts. record { free = m; shared = ts; parts = [] } in
        i ∙ ap (λ m. made m (map ty vs)) (g ∙ names_are) ∙ ap (made (length (free_names b))) types_are
