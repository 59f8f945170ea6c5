-- The nodes behind `new`s are those of the process behind them, and the `new`s make the shared types.
use Rattle.std.proofs.Common.{◌≡◌, ℕ, suc, ◌+◌, ◌-◌, ◌≤◌, List, [], ◌∷◌, ◌++◌, length, map, drop, take, refl, sym, ap, ◌∙◌, subst, arith}
use Rattle.std.proofs.lemmas.List.{map-append}
use Rattle.std.proofs.Math.Seq.{drop-append_seam, take-append_seam}
use Rattle.spi_tree.specs.Trees as t
use Rattle.spi_heading.specs.Headings.{Shared, with_shared}
use Rattle.spi_term.specs.Term.{Ty, Freshes, Process, leaf, prefix, fork, binds, fork_binds, process_size}
use Rattle.spi_term.specs.Spelling.{Shape, prefix_at, fork_at, flat, spelled, Spelling}
use Rattle.spi_term.proofs.Unique.{spelled_one}
use Rattle.spi_scope.specs.Scope.{Names, Abbreviations}
use Rattle.spi_scope.specs.Meaning.{process_in, process_over}
use Rattle.spi_scope.specs.Over.{AreAbbreviationsOver}
use Rattle.spi_scope.specs.StandsFor.{over_free}
use Rattle.spi_scope.proofs.Indexing.{nodes_spell, more_over}
use Rattle.spi_workbench.specs.Reading.{behind_shared, types_in}
use Rattle.spi_workbench.specs.Behind.{earlier, StandsBehind, type_made}

-- the nodes of a process that stand n places earlier
earlier_flat : (n i j k : ℕ) (q : Process) → j ≡ i + n → map (earlier n) (flat j k q) ≡ flat i k q
earlier_flat n i j k (leaf l) e = refl
earlier_flat n i j k (prefix s p) e =
    let f : suc j - n ≡ suc i = omega (arith, e) in
    ap (λ b. prefix_at k s b ∷ map (earlier n) (flat (suc j) (k + binds s) p)) f
    ∙ ap (λ l. prefix_at k s (suc i) ∷ l) (earlier_flat n (suc i) (suc j) (k + binds s) p (omega (arith, e)))
earlier_flat n i j k (fork f p q) e =
    let m : ℕ = k + fork_binds f in
    let a : suc j - n ≡ suc i = omega (arith, e) in
    let r : suc j + process_size p - n ≡ suc i + process_size p = omega (arith, e) in
    ap (λ b. fork_at k f b (suc j + process_size p - n) ∷ map (earlier n) (flat (suc j) m p ++ flat (suc j + process_size p) m q)) a
    ∙ ap (λ b. fork_at k f (suc i) b ∷ map (earlier n) (flat (suc j) m p ++ flat (suc j + process_size p) m q)) r
    ∙ ap (λ l. fork_at k f (suc i) (suc i + process_size p) ∷ l) (map-append (earlier n) (flat (suc j) m p) (flat (suc j + process_size p) m q))
    ∙ ap (λ l. fork_at k f (suc i) (suc i + process_size p) ∷ (l ++ map (earlier n) (flat (suc j + process_size p) m q))) (earlier_flat n (suc i) (suc j) m p (omega (arith, e)))
    ∙ ap (λ l. fork_at k f (suc i) (suc i + process_size p) ∷ (flat (suc i) m p ++ l)) (earlier_flat n (suc i + process_size p) (suc j + process_size p) m q (omega (arith, e)))

-- the nodes of `new`s
abbrev made_shapes : ℕ → ℕ → List Ty → List Shape
made_shapes i k [] = []
made_shapes i k (a ∷ bs) = prefix_at k (Freshes a) (suc i) ∷ made_shapes (suc i) (suc k) bs

made_types : (i k : ℕ) (bs : List Ty) → map type_made (made_shapes i k bs) ≡ bs
made_types i k [] = refl
made_types i k (a ∷ bs) = ap (λ l. a ∷ l) (made_types (suc i) (suc k) bs)

length_made : (i k : ℕ) (ts : Abbreviations) (xs : Names) (ss : List Shared) → length (made_shapes i k (types_in ts xs ss)) ≡ length ss
length_made i k ts xs [] = refl
length_made i k ts xs (s ∷ ss) = ap suc (length_made (suc i) (suc k) ts (s.name.word ∷ xs) ss)

pub more_names : (xs : Names) (ss : List Shared) → length (with_shared xs ss) ≡ length xs + length ss
more_names xs [] = omega arith
more_names xs (s ∷ ss) = omega (arith, more_names (s.name.word ∷ xs) ss)

pub as_many_types : (ts : Abbreviations) (xs : Names) (ss : List Shared) → length (types_in ts xs ss) ≡ length ss
as_many_types ts xs [] = refl
as_many_types ts xs (s ∷ ss) = ap suc (as_many_types ts (s.name.word ∷ xs) ss)

flat_behind : (ts : Abbreviations) (p : t.Proc) (xs : Names) (ss : List Shared) (i k : ℕ) → k ≡ length xs
    → flat i k (process_in (λ s. s) ts xs (behind_shared ss p)) ≡ made_shapes i k (types_in ts xs ss) ++ flat (i + length ss) (length (with_shared xs ss)) (process_in (λ s. s) ts (with_shared xs ss) p)
flat_behind ts p xs [] i k e =
    let z : i ≡ i + 0 = omega arith in
    ap (λ n. flat n k (process_in (λ s. s) ts xs p)) z ∙ ap (λ n. flat (i + 0) n (process_in (λ s. s) ts xs p)) e
flat_behind ts p xs (s ∷ ss) i k e =
    let ys : Names = s.name.word ∷ xs in
    let q : Process = process_in (λ s. s) ts ys (behind_shared ss p) in
    let z : k + 1 ≡ suc k = omega arith in
    let n : suc i + length ss ≡ i + suc (length ss) = omega arith in
    let c : suc k ≡ suc (length xs) = ap suc e in
    let rest : Process = process_in (λ s. s) ts (with_shared ys ss) p in
    let a : Ty = Rattle.spi_scope.specs.Meaning.type_in (length xs) ts xs s.ty in
    ap (λ m. prefix_at k (Freshes a) (suc i) ∷ flat (suc i) m q) z
    ∙ ap (λ l. prefix_at k (Freshes a) (suc i) ∷ l) (flat_behind ts p ys ss (suc i) (suc k) c)
    ∙ ap (λ m. prefix_at k (Freshes a) (suc i) ∷ (made_shapes (suc i) (suc k) (types_in ts ys ss) ++ flat m (length (with_shared ys ss)) rest)) n

module _ (ts : Abbreviations) (xs : Names) (ss : List Shared) (p : t.Proc) (over : AreAbbreviationsOver (length xs) ts) where
  whole_nodes : spelled (length xs) (process_over (length xs) ts xs (behind_shared ss p)) ≡ made_shapes 0 (length xs) (types_in ts xs ss) ++ flat (0 + length ss) (length (with_shared xs ss)) (process_in (λ s. s) ts (with_shared xs ss) p)
  whole_nodes = (nodes_spell ts xs over (behind_shared ss p)).1 ∙ flat_behind ts p xs ss 0 (length xs) refl

  pub stands_behind : StandsBehind (length ss) (over_free ts xs (behind_shared ss p)) (over_free ts (with_shared xs ss) p)
  stands_behind =
      let ys : Names = with_shared xs ss in
      let le : length xs ≤ length ys = omega (arith, more_names xs ss) in
      let s = nodes_spell ts ys (more_over (length xs) (length ys) le ts over) p in
      let ms = made_shapes 0 (length xs) (types_in ts xs ss) in
      let rest = flat (0 + length ss) (length ys) (process_in (λ s. s) ts ys p) in
      let n : length ms ≡ length ss = length_made 0 (length xs) ts xs ss in
      record {
        names = more_names xs ss;
        over = s.0;
        nodes = ap (λ l. map (earlier (length ss)) (drop (length ss) l)) whole_nodes
            ∙ ap (λ m. map (earlier (length ss)) (drop m (ms ++ rest))) (sym n)
            ∙ ap (map (earlier (length ss))) (drop-append_seam ms rest)
            ∙ earlier_flat (length ss) 0 (0 + length ss) (length ys) (process_in (λ s. s) ts ys p) refl
            ∙ sym s.1;
      }

  pub types_stand : map type_made (take (length ss) (spelled (length xs) (process_over (length xs) ts xs (behind_shared ss p)))) ≡ types_in ts xs ss
  types_stand =
      let ms = made_shapes 0 (length xs) (types_in ts xs ss) in
      let rest = flat (0 + length ss) (length (with_shared xs ss)) (process_in (λ s. s) ts (with_shared xs ss) p) in
      let n : length ms ≡ length ss = length_made 0 (length xs) ts xs ss in
      ap (λ l. map type_made (take (length ss) l)) whole_nodes
      ∙ ap (λ m. map type_made (take m (ms ++ rest))) (sym n)
      ∙ ap (map type_made) (take-append_seam ms rest)
      ∙ made_types 0 (length xs) (types_in ts xs ss)

-- one process at most stands there
pub one_behind : (n : ℕ) (whole p q : Spelling) → StandsBehind n whole p → StandsBehind n whole q → p ≡ q
one_behind n whole p q h g =
    let names : p.names ≡ q.names = h.names ∙ sym g.names in
    let over : Rattle.spi_term.specs.Names.ProcessOver p.names q.process = subst (λ k. Rattle.spi_term.specs.Names.ProcessOver k q.process) (sym names) g.over in
    let same : spelled p.names p.process ≡ spelled p.names q.process = sym h.nodes ∙ g.nodes ∙ ap (λ k. spelled k q.process) (sym names) in
    let made : ℕ → Process → Spelling = λ k r. record { names = k; process = r } in
    ap (λ r. made p.names r) (spelled_one p.names p.process q.process h.over over same) ∙ ap (λ k. made k q.process) names
