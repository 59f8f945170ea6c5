-- Laws of what is still to be left out, and of the difference so far.
use Rattle.std.proofs.Common.{◌≡◌, refl, sym, ◌∙◌, ap, subst, ℕ, suc, ◌-◌, ◌<◌, ◌≤◌, Bool, true, false, nat_lt, List, [], ◌∷◌, ◌++◌, Some, None, Option, length, map, ◌⊎◌, inl, inr, ⊎_elim, arith, ◌≢◌}
use Rattle.std.proofs.lemmas.Bool.{cases_eq, cases_lt, ltb-true, ltb-false}
use Rattle.std.proofs.lemmas.List.{map_push, get_or-set_same, get_or-set_other}
use Rattle.std.proofs.lemmas.Option.{slice_get_within}
use Rattle.std.specs.Prelude.{slice_get, slice_index}
use Rattle.std.specs.List.Sorted.{IsPermutation}
use Rattle.spi_term.specs.Term.{Atom, ends, checks, many, atom_discrete, Effect}
use Rattle.spi_term.specs.Counts.{tally, cut, count}
use Rattle.spi_term.specs.Looking.{IsFirstPlace, IsTally}
use Rattle.spi_term.proofs.Counting.{tally_in}
use Rattle.spi_term.proofs.Lookup.{place_unique, one_element, tally_push_other, tally_push_same}
use Rattle.spi_term.proofs.Chunks.{in_permutation, place_exists}
use Rattle.spi_effect.specs.Effect.{IsDifference}
use Rattle.spi_effect.specs.Rest.{owed, IsOwed, is_owed, lowered, IsMet}

-- before the first atom
owed_none : (a : Atom) (k : ℕ) → k ≡ owed a 0 k
owed_none (ends m) k = omega arith
owed_none (checks m) k = omega arith
owed_none (many m) k = refl

pub owed_start : {sorted fs : Effect} {left : List ℕ} → IsTally sorted fs left → IsOwed sorted [] fs left
owed_start {sorted} {fs} t = record { at = λ a i p. t.at a i p ∙ owed_none a (tally a fs) }

-- at another atom's place nothing changes
lowered_other : (a : Atom) (j i : ℕ) (left : List ℕ) → i ≢ j → slice_index (lowered a (Some j) left) i ≡ slice_index left i
lowered_other (ends m) j i left d = get_or-set_other left j i (slice_index left j - 1) 0 d
lowered_other (checks m) j i left d = get_or-set_other left j i (slice_index left j - 1) 0 d
lowered_other (many m) j i left d = refl

lowered_same : (a : Atom) (j : ℕ) (left : List ℕ) (n k : ℕ) → j < length left → slice_index left j ≡ owed a n k → slice_index (lowered a (Some j) left) j ≡ owed a (suc n) k
lowered_same (ends m) j left n k w e = get_or-set_same left j (slice_index left j - 1) 0 w ∙ omega arith
lowered_same (checks m) j left n k w e = get_or-set_same left j (slice_index left j - 1) 0 w ∙ omega arith
lowered_same (many m) j left n k w e = e

pub owed_more : {sorted es fs : Effect} {y : Atom} {before after : List ℕ} {out : Bool} → length before ≡ length sorted → IsOwed sorted es fs before → IsMet sorted y before after out → IsOwed sorted (es ++ y ∷ []) fs after
owed_more {sorted} {es} {fs} {y} {before} {after} n o r = record { at = λ a i p. go r.place r.is_place r.is a i p }
  where
    go : (q : Option ℕ) → IsFirstPlace y sorted q → after ≡ lowered y q before → (a : Atom) (i : ℕ) → IsFirstPlace a sorted (Some i) → slice_index after i ≡ owed a (tally a (es ++ y ∷ [])) (tally a fs)
    go None q e a i p =
        let d : a ≢ y = λ s. q i (p.0 ∙ ap Some s) in
        ap (λ c. slice_index c i) e ∙ o.at a i p ∙ ap (λ k. owed a k (tally a fs)) (sym (tally_push_other a y es d))
    go (Some j) q e a i p = ⊎_elim here there (cases_eq i j)
      where
        w : j < length before
        w = subst (λ k. j < k) (sym n) (slice_get_within sorted j y q.0)

        here : i ≡ j → slice_index after i ≡ owed a (tally a (es ++ y ∷ [])) (tally a fs)
        here s =
            let same : a ≡ y = one_element (sym p.0 ∙ ap (slice_get sorted) s ∙ q.0) in
            ap (λ c. slice_index c i) e ∙ ap (slice_index (lowered y (Some j) before)) s
            ∙ lowered_same y j before (tally y es) (tally y fs) w (o.at y j q)
            ∙ ap (λ k. owed y k (tally y fs)) (sym (tally_push_same y y es refl))
            ∙ ap (λ b. owed b (tally b (es ++ y ∷ [])) (tally b fs)) (sym same)

        there : i ≢ j → slice_index after i ≡ owed a (tally a (es ++ y ∷ [])) (tally a fs)
        there d =
            let other : a ≢ y = λ s. d (place_unique a sorted i j p (subst (λ z. IsFirstPlace z sorted (Some j)) (sym s) q)) in
            ap (λ c. slice_index c i) e ∙ lowered_other y j i before d ∙ o.at a i p ∙ ap (λ k. owed a k (tally a fs)) (sym (tally_push_other a y es other))

-- an atom with no place stands in no list of the same atoms
none_owed : (a : Atom) (n k : ℕ) → k ≡ 0 → owed a n k ≡ 0
none_owed (ends m) n k e = omega arith
none_owed (checks m) n k e = omega arith
none_owed (many m) n k e = e

no_place : (sorted fs : Effect) (y : Atom) → IsPermutation fs sorted → IsFirstPlace y sorted None → tally y fs ≡ 0
no_place sorted fs y p q = ⊎_elim
    (λ (h : tally y fs < 1). omega arith)
    (λ (h : 1 ≤ tally y fs). let (i, r) = place_exists y sorted (in_permutation y fs sorted p (tally_in y fs h)) in absurd (q i r.0))
    (cases_lt (tally y fs) 1)

pub met_answer : {sorted es fs : Effect} {y : Atom} {before after : List ℕ} {out : Bool} → IsPermutation fs sorted → IsOwed sorted es fs before → IsMet sorted y before after out → out ≡ nat_lt 0 (owed y (tally y es) (tally y fs))
met_answer {sorted} {es} {fs} {y} {before} {after} {out} p o r = r.answer ∙ go r.place r.is_place
  where
    go : (q : Option ℕ) → IsFirstPlace y sorted q → is_owed q before ≡ nat_lt 0 (owed y (tally y es) (tally y fs))
    go None q = ap (nat_lt 0) (sym (none_owed y (tally y es) (tally y fs) (no_place sorted fs y p q)))
    go (Some j) q = ap (nat_lt 0) (o.at y j q)

-- the difference so far
pub difference_start : (fs : Effect) → IsDifference [] [] fs
difference_start fs = record { at = λ a. cut_nothing a (count a fs) }
  where
    cut_nothing : (a : Atom) (n : ℕ) → cut a 0 ≡ cut a 0 - n
    cut_nothing (ends m) n = omega arith
    cut_nothing (checks m) n = omega arith
    cut_nothing (many m) n = omega arith

kept_one : (a : Atom) (r e f : ℕ) → cut a r ≡ cut a e - cut a f → nat_lt 0 (owed a e f) ≡ false → cut a (suc r) ≡ cut a (suc e) - cut a f
kept_one (ends m) r e f h d = let k = ltb-false 0 (f - e) d in omega arith
kept_one (checks m) r e f h d = let k = ltb-false 0 (f - e) d in omega arith
kept_one (many m) r e f h d = let k = ltb-false 0 f d in omega arith

out_one : (a : Atom) (r e f : ℕ) → cut a r ≡ cut a e - cut a f → nat_lt 0 (owed a e f) ≡ true → cut a r ≡ cut a (suc e) - cut a f
out_one (ends m) r e f h d = let k = ltb-true 0 (f - e) d in omega arith
out_one (checks m) r e f h d = let k = ltb-true 0 (f - e) d in omega arith
out_one (many m) r e f h d = let k = ltb-true 0 f d in omega arith

cases_same : (a b : Atom) → (a ≡ b) ⊎ (a ≢ b)
cases_same a b = elim (atom_discrete a b) [ yes e ↦ inl e | no n ↦ inr n ]

pub difference_kept : {rs es fs : Effect} (y : Atom) → IsDifference rs es fs → nat_lt 0 (owed y (tally y es) (tally y fs)) ≡ false → IsDifference (rs ++ y ∷ []) (es ++ y ∷ []) fs
difference_kept {rs} {es} {fs} y d k = record { at = λ a. ⊎_elim (same a) (other a) (cases_same a y) }
  where
    same : (a : Atom) → a ≡ y → count a (rs ++ y ∷ []) ≡ count a (es ++ y ∷ []) - count a fs
    same a e = subst (λ b. cut b (tally b (rs ++ y ∷ [])) ≡ cut b (tally b (es ++ y ∷ [])) - cut b (tally b fs)) (sym e)
        (rw (tally_push_same y y rs refl, tally_push_same y y es refl) (kept_one y (tally y rs) (tally y es) (tally y fs) (d.at y) k))

    other : (a : Atom) → a ≢ y → count a (rs ++ y ∷ []) ≡ count a (es ++ y ∷ []) - count a fs
    other a n = rw (tally_push_other a y rs n, tally_push_other a y es n) (d.at a)

pub difference_out : {rs es fs : Effect} (y : Atom) → IsDifference rs es fs → nat_lt 0 (owed y (tally y es) (tally y fs)) ≡ true → IsDifference rs (es ++ y ∷ []) fs
difference_out {rs} {es} {fs} y d k = record { at = λ a. ⊎_elim (same a) (other a) (cases_same a y) }
  where
    same : (a : Atom) → a ≡ y → count a rs ≡ count a (es ++ y ∷ []) - count a fs
    same a e = subst (λ b. cut b (tally b rs) ≡ cut b (tally b (es ++ y ∷ [])) - cut b (tally b fs)) (sym e)
        (rw (tally_push_same y y es refl) (out_one y (tally y rs) (tally y es) (tally y fs) (d.at y) k))

    other : (a : Atom) → a ≢ y → count a rs ≡ count a (es ++ y ∷ []) - count a fs
    other a n = rw (tally_push_other a y es n) (d.at a)

-- a push onto a list that is mapped
pub map_pushed : {A B : Type 0} (f : A → B) (xs ys : List A) (x : A) (b : B) → ys ≡ xs ++ x ∷ [] → f x ≡ b → map f ys ≡ map f xs ++ b ∷ []
map_pushed f xs ys x b e h = ap (map f) e ∙ map_push f xs x ∙ ap (λ z. map f xs ++ z ∷ []) h
