-- The rules that wait at a number.
use Rattle.std.proofs.Common.{◌≡◌, refl, sym, ap, subst, ◌∙◌, ℕ, zero, suc, ◌+◌, ◌<◌, ◌⊎◌, ⊎_elim, List, [], ◌∷◌, ◌++◌, Some, slice_get, get_or, set, length, map, replicate, below_more, arith}
use Rattle.std.proofs.lemmas.Option.{slice_get-map, slice_get-get_or, slice_get_within, slice_get_read}
use Rattle.std.proofs.lemmas.List.{map-set}
use Rattle.std.specs.Option.{option_map}
use Rattle.spi_horn.specs.declared.rules.Rule.{Rule}
use Rattle.spi_horn.specs.declared.waiting.Waiting.{Waiting}
use Rattle.spi_horn.specs.Leading.{StartsWithin}
use Rattle.spi_horn.specs.Waits.{numbers, PutsWait, WaitsAt, RulesWait}
use Rattle.spi_horn.proofs.Lookups.{get_append, get_end, get_cases, get_set_same, set_cases}

pub puts : (lists : List Waiting) (p k : ℕ) (d w : Waiting) → p < length lists → numbers w ≡ numbers (get_or lists p d) ++ k ∷ [] → PutsWait p k (map numbers lists) (map numbers (set lists p w))
puts lists p k d w lt e = (
  numbers (get_or lists p d),
  slice_get-map numbers lists p ∙ ap (option_map numbers) (slice_get-get_or lists p d lt),
  map-set numbers lists p w ∙ ap (λ x. set (map numbers lists) p x) e,
)

at_put : (lists lists' : List (List ℕ)) (p k p' k' : ℕ) → PutsWait p k lists lists' → WaitsAt lists p' k' → WaitsAt lists' p' k'
at_put lists lists' p k p' k' (ks0, e, s) f = λ ks h.
    let g : slice_get (set lists p (ks0 ++ k ∷ [])) p' ≡ Some ks = sym (ap (λ l. slice_get l p') s) ∙ h in
    ⊎_elim
    (λ (a, b). let w : slice_get lists p' ≡ Some ks0 = ap (slice_get lists) a ∙ e in
    let (i, at) = f ks0 w in
    (i, ap (λ l. slice_get l i) b ∙ get_append ks0 (k ∷ []) i k' at))
    (λ a. f ks a)
    (set_cases lists p (ks0 ++ k ∷ []) p' ks g)

at_put_new : (lists lists' : List (List ℕ)) (p k : ℕ) → PutsWait p k lists lists' → WaitsAt lists' p k
at_put_new lists lists' p k (ks0, e, s) = λ ks h.
    let g : slice_get lists' p ≡ Some (ks0 ++ k ∷ []) = ap (λ l. slice_get l p) s ∙ get_set_same lists p (ks0 ++ k ∷ []) (slice_get_within lists p ks0 e) in
    let w : Some (ks0 ++ k ∷ []) ≡ Some ks = sym g ∙ h in
    let v : ks0 ++ k ∷ [] ≡ ks = cc in
    (length ks0, ap (λ l. slice_get l (length ks0)) (sym v) ∙ get_end ks0 k)

abbrev ListsAreBelow : ℕ → List (List ℕ) → Type 0
ListsAreBelow n lists = (p : ℕ) (ks : List ℕ) → slice_get lists p ≡ Some ks → (i k : ℕ) → slice_get ks i ≡ Some k → k < n

within_put : (lists lists' : List (List ℕ)) (p k n : ℕ) → k < n → PutsWait p k lists lists' → ListsAreBelow n lists → ListsAreBelow n lists'
within_put lists lists' p k n lt (ks0, e, s) f q ks h i j at =
    let g : slice_get (set lists p (ks0 ++ k ∷ [])) q ≡ Some ks = sym (ap (λ l. slice_get l q) s) ∙ h in
    ⊎_elim
    (λ (a, b). ⊎_elim (λ (c, d). subst (λ x. x < n) (sym d) lt) (λ m. f p ks0 e i j m)
    (get_cases ks0 k i j (ap (λ l. slice_get l i) (sym b) ∙ at)))
    (λ a. f q ks a i j at)
    (set_cases lists p (ks0 ++ k ∷ []) q ks g)

pub waits_step : (rules : List Rule) (n : ℕ) (lists lists' lists'' : List (List ℕ)) (r : Rule) → slice_get rules n ≡ Some r → PutsWait r.first n lists lists' → PutsWait r.second n lists' lists'' → RulesWait rules n lists → RulesWait rules (n + 1) lists''
waits_step rules n lists lists' lists'' r e p q w =
    let lt = slice_get_within rules n r e in
    let F : ℕ → Type 0 = λ k. (s : Rule) → slice_get rules k ≡ Some s → WaitsAt lists'' s.first k in
    let G : ℕ → Type 0 = λ k. (s : Rule) → slice_get rules k ≡ Some s → WaitsAt lists'' s.second k in
    let f : (k : ℕ) → k < n + 1 → F k = below_more F n
    (λ k h s g. at_put lists' lists'' r.second n s.first k q (at_put lists lists' r.first n s.first k p (w.first k s h g)))
    (λ s g. let a : Some r ≡ Some s = sym e ∙ g in let b : r ≡ s = cc in
    subst (λ x. WaitsAt lists'' x.first n) b (at_put lists' lists'' r.second n r.first n q (at_put_new lists lists' r.first n p))) in
    let h : (k : ℕ) → k < n + 1 → G k = below_more G n
    (λ k h s g. at_put lists' lists'' r.second n s.second k q (at_put lists lists' r.first n s.second k p (w.second k s h g)))
    (λ s g. let a : Some r ≡ Some s = sym e ∙ g in let b : r ≡ s = cc in
    subst (λ x. WaitsAt lists'' x.second n) b (at_put_new lists' lists'' r.second n q)) in
    record {
      first = λ k s l g. f k l s g;
      second = λ k s l g. h k l s g;
      within = within_put lists' lists'' r.second n (length rules) lt q (within_put lists lists' r.first n (length rules) lt p w.within);
    }

none_waits : (n p : ℕ) (ks : List ℕ) → slice_get (replicate n []) p ≡ Some ks → (i j : ℕ) → slice_get ks i ≡ Some j → ⊥
none_waits zero p ks e i j at = cc
none_waits (suc n) zero ks e i j at = let f : [] ≡ ks = cc in let h : slice_get [] i ≡ Some j = ap (λ l. slice_get l i) f ∙ at in cc
none_waits (suc n) (suc p) ks e i j at = none_waits n p ks e i j at

pub waits_none : (rules : List Rule) (lists : List (List ℕ)) (n : ℕ) → lists ≡ replicate n [] → RulesWait rules 0 lists
waits_none rules lists n e = record {
  first = λ k r lt g. absurd (omega (arith, lt));
  second = λ k r lt g. absurd (omega (arith, lt));
  within = λ p ks g i j at. absurd (none_waits n p ks (ap (λ l. slice_get l p) (sym e) ∙ g) i j at);
}

got : (lists : List Waiting) (p : ℕ) (v : Waiting) → p < length lists → v ≡ get_or lists p v → slice_get (map numbers lists) p ≡ Some (numbers v)
got lists p v lt e = slice_get-map numbers lists p ∙ ap (option_map numbers) (slice_get_read lists (length lists) p v refl lt e)

pub within_at : (rules : List Rule) (n : ℕ) (lists : List Waiting) (p : ℕ) (v : Waiting) → RulesWait rules n (map numbers lists) → p < length lists → v ≡ get_or lists p v → StartsWithin (length rules) (numbers v)
within_at rules n lists p v w lt e i k at = w.within p (numbers v) (got lists p v lt e) i k at

pub waits_at : (rules : List Rule) (lists : List Waiting) (p : ℕ) (v : Waiting) → RulesWait rules (length rules) (map numbers lists) → p < length lists → v ≡ get_or lists p v → (k : ℕ) (r : Rule) → slice_get rules k ≡ Some r → (r.first ≡ p) ⊎ (r.second ≡ p) → (j : ℕ) × (slice_get (numbers v) j ≡ Some k)
waits_at rules lists p v w lt is k r e s =
    let g = got lists p v lt is in
    ⊎_elim
    (λ a. w.first k r (slice_get_within rules k r e) e (numbers v) (ap (slice_get (map numbers lists)) a ∙ g))
    (λ a. w.second k r (slice_get_within rules k r e) e (numbers v) (ap (slice_get (map numbers lists)) a ∙ g))
    s
