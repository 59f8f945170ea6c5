-- Numbers that get places.
use Rattle.std.proofs.Common.{◌≡◌, refl, sym, ap, subst, ◌∙◌, ℕ, zero, suc, ◌⊎◌, inl, inr, ⊎_elim, List, [], ◌∷◌, ◌++◌, Option, Some, None, slice_get, set, length, replicate, arith}
use Rattle.std.proofs.lemmas.List.{length-set, length_push}
use Rattle.std.proofs.lemmas.Option.{slice_get_within}
use Rattle.spi_horn.specs.declared.rules.Rule.{Rule}
use Rattle.spi_horn.specs.declared.rules.Reached.{Reached}
use Rattle.spi_horn.specs.declared.rules.Why.{Why}
use Rattle.spi_horn.specs.declared.rules.Why.TheVariants.{Start, ByRule}
use Rattle.spi_horn.specs.Leading.{IsPlacedAt, HasSomePlace, StandsBefore, IsReason, IsOrder}
use Rattle.spi_horn.specs.Finding.{reached, unplaced, AddsNumber, IsLookedThrough, KeepsPlaces}
use Rattle.spi_horn.proofs.Lookups.{get_append, get_end, get_cases, get_set_same, set_cases}

-- a number without a place gets one, and each other keeps its own
kept_set : (places : List (Option ℕ)) (n u m t : ℕ) → slice_get places n ≡ Some None → IsPlacedAt places m t → IsPlacedAt (set places n (Some u)) m t
kept_set [] n u m t e f = cc
kept_set (Some x ∷ ps) zero u m t e f = cc
kept_set (None ∷ ps) zero u zero t e f = cc
kept_set (None ∷ ps) zero u (suc m) t e f = f
kept_set (p ∷ ps) (suc n) u zero t e f = f
kept_set (p ∷ ps) (suc n) u (suc m) t e f = kept_set ps n u m t e f

unplaced_set : (places : List (Option ℕ)) (n u : ℕ) → slice_get places n ≡ Some None → suc (unplaced (set places n (Some u))) ≡ unplaced places
unplaced_set [] n u e = cc
unplaced_set (Some x ∷ ps) zero u e = cc
unplaced_set (None ∷ ps) zero u e = refl
unplaced_set (Some x ∷ ps) (suc n) u e = unplaced_set ps n u e
unplaced_set (None ∷ ps) (suc n) u e = ap suc (unplaced_set ps n u e)

placed_cases : (places : List (Option ℕ)) (n u m t : ℕ) → IsPlacedAt (set places n (Some u)) m t → ((m ≡ n) × (t ≡ u)) ⊎ IsPlacedAt places m t
placed_cases places n u m t e = ⊎_elim (λ (f, g). let h : t ≡ u = cc in inl (f, h)) (λ f. inr f) (set_cases places n (Some u) m (Some t) e)

before_kept : (places places' : List (Option ℕ)) (t m : ℕ) → ((n s : ℕ) → IsPlacedAt places n s → IsPlacedAt places' n s) → StandsBefore places t m → StandsBefore places' t m
before_kept places places' t m f (s, lt, e) = (s, lt, f m s e)

reason_kept : (rules : List Rule) (start : List ℕ) (places places' : List (Option ℕ)) (t n : ℕ) (why : Why) → ((m s : ℕ) → IsPlacedAt places m s → IsPlacedAt places' m s) → IsReason rules start places t n why → IsReason rules start places' t n why
reason_kept rules start places places' t n (Start j) f e = e
reason_kept rules start places places' t n (ByRule k) f (r, e, g, a, b) = (r, e, g, before_kept places places' t r.first f a, before_kept places places' t r.second f b)

order_new : (rules : List Rule) (start : List ℕ) (order : List Reached) (places : List (Option ℕ)) (n : ℕ) (why : Why) → slice_get places n ≡ Some None → IsReason rules start places (length order) n why → IsOrder rules start order places → IsOrder rules start (order ++ reached n why ∷ []) (set places n (Some (length order)))
order_new rules start order places n why e is o =
    let new = order ++ reached n why ∷ [] in
    let places' = set places n (Some (length order)) in
    let kept : (m s : ℕ) → IsPlacedAt places m s → IsPlacedAt places' m s = λ m s h. kept_set places n (length order) m s e h in
    let at : IsPlacedAt places' n (length order) = get_set_same places n (Some (length order)) (slice_get_within places n None e) in
    record {
      placed = λ m t h. ⊎_elim
          (λ (a, b). (reached n why, ap (slice_get new) b ∙ get_end order (reached n why), sym a))
          (λ a. let (x, g, i) = o.placed m t a in (x, get_append order (reached n why ∷ []) t x g, i))
          (placed_cases places n (length order) m t h);
      stands = λ t x h. ⊎_elim
          (λ (a, b). let P : Reached → Type 0 = λ y. IsPlacedAt places' y.number t in
          subst P (sym b) (at ∙ ap (λ s. Some (Some s)) (sym a)))
          (λ a. kept x.number t (o.stands t x a))
          (get_cases order (reached n why) t x h);
      reasons = λ t x h. ⊎_elim
          (λ (a, b). let P : Reached → Type 0 = λ y. IsReason rules start places' t y.number y.why in
          let Q : ℕ → Type 0 = λ s. IsReason rules start places' s n why in
          subst P (sym b) (subst Q (sym a) (reason_kept rules start places places' (length order) n why kept is)))
          (λ a. reason_kept rules start places places' t x.number x.why kept (o.reasons t x a))
          (get_cases order (reached n why) t x h);
    }

good_new : (rules : List Rule) (start : List ℕ) (order : List Reached) (places : List (Option ℕ)) (c : ℕ) (left : List ℕ) (i n : ℕ) (why : Why) → slice_get places n ≡ Some None → IsReason rules start places (length order) n why → IsLookedThrough rules start order places c left i → IsLookedThrough rules start (order ++ reached n why ∷ []) (set places n (Some (length order))) c left i
good_new rules start order places c left i n why e is g =
    let places' = set places n (Some (length order)) in
    let kept : (m s : ℕ) → IsPlacedAt places m s → IsPlacedAt places' m s = λ m s h. kept_set places n (length order) m s e h in
    let u = unplaced_set places n (length order) e in
    let l = length_push order (reached n why) in
    let w = length-set places n (Some (length order)) in
    let count = g.count in
    let ahead = g.ahead in
    record {
      ordered = order_new rules start order places n why e is g.ordered;
      count = omega (arith, u, l, w, count);
      ahead = omega (arith, l, ahead);
      done = λ k r s t f a b. ⊎_elim
          (λ (x, y). inr (inl (omega (arith, y, ahead))))
          (λ x. ⊎_elim
          (λ (y, z). inr (inr (inl (omega (arith, z, ahead)))))
          (λ y. ⊎_elim (λ (v, z). inl (v, kept r.gives v z)) (λ z. inr z) (g.done k r s t f x y))
          (placed_cases places n (length order) r.second t b))
          (placed_cases places n (length order) r.first s a);
    }

-- a number with a reason is added
pub good_add : (rules : List Rule) (start : List ℕ) (order order' : List Reached) (places places' : List (Option ℕ)) (c : ℕ) (left : List ℕ) (i n : ℕ) (why : Why) → IsReason rules start places (length order) n why → AddsNumber n why order places order' places' → IsLookedThrough rules start order places c left i → IsLookedThrough rules start order' places' c left i
good_add rules start order order' places places' c left i n why is a g =
    let P : List Reached → Type 0 = λ x. IsLookedThrough rules start x places' c left i in
    ⊎_elim
    (λ (m, e, f). let Q : List (Option ℕ) → Type 0 = λ x. IsLookedThrough rules start order x c left i in subst P (sym e) (subst Q (sym f) g))
    (λ (m, e, f). let Q : List (Option ℕ) → Type 0 = λ x. IsLookedThrough rules start (order ++ reached n why ∷ []) x c left i in
    subst P (sym e) (subst Q (sym f) (good_new rules start order places c left i n why m is g)))
    a

-- the added number has a place then
pub added_stands : (order order' : List Reached) (places places' : List (Option ℕ)) (n : ℕ) (why : Why) → AddsNumber n why order places order' places' → HasSomePlace places' n
added_stands order order' places places' n why a =
    let P : List (Option ℕ) → Type 0 = λ x. HasSomePlace x n in
    ⊎_elim (λ (m, e, f). subst P (sym f) m)
    (λ (m, e, f). subst P (sym f) (length order, get_set_same places n (Some (length order)) (slice_get_within places n None m)))
    a

pub added_keeps : (order order' : List Reached) (places places' : List (Option ℕ)) (n : ℕ) (why : Why) → AddsNumber n why order places order' places' → KeepsPlaces places places'
added_keeps order order' places places' n why a =
    let P : List (Option ℕ) → Type 0 = λ x. KeepsPlaces places x in
    ⊎_elim (λ (m, e, f). subst P (sym f) (refl, λ i t k. k))
    (λ (m, e, f). subst P (sym f) (length-set places n (Some (length order)), λ i t k. kept_set places n (length order) i t m k))
    a

pub keeps_keeps : (a b c : List (Option ℕ)) → KeepsPlaces a b → KeepsPlaces b c → KeepsPlaces a c
keeps_keeps a b c (e, f) (g, h) = (g ∙ e, λ n t k. h n t (f n t k))

none_placed : (k n t : ℕ) → IsPlacedAt (replicate k None) n t → ⊥
none_placed zero n t e = cc
none_placed (suc k) zero t e = cc
none_placed (suc k) (suc n) t e = none_placed k n t e

all_unplaced : (k : ℕ) → unplaced (replicate k None) ≡ k
all_unplaced zero = refl
all_unplaced (suc k) = ap suc (all_unplaced k)

-- at the beginning nothing has a place
pub good_first : (rules : List Rule) (start : List ℕ) (order : List Reached) (places : List (Option ℕ)) → order ≡ [] → places ≡ replicate (length places) None → IsLookedThrough rules start order places 0 [] 0
good_first rules start order places e f =
    let none : (n t : ℕ) → IsPlacedAt places n t → ⊥ = λ n t h. none_placed (length places) n t (ap (λ x. slice_get x n) (sym f) ∙ h) in
    let gone : (t : ℕ) (x : Reached) → slice_get order t ≡ Some x → ⊥ = λ t x h. let i : slice_get [] t ≡ Some x = ap (λ y. slice_get y t) (sym e) ∙ h in cc in
    let u : unplaced places ≡ length places = ap unplaced f ∙ all_unplaced (length places) in
    let l : length order ≡ 0 = ap length e in
    record {
      ordered = record {
        placed = λ n t h. absurd (none n t h);
        stands = λ t x h. absurd (gone t x h);
        reasons = λ t x h. absurd (gone t x h);
      };
      count = omega (arith, u, l);
      ahead = omega arith;
      done = λ k r s t g a b. absurd (none r.first s a);
    }
