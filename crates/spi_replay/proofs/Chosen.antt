-- What a function makes of the numbers of the elements that a test chooses.
use Rattle.std.proofs.Common.{◌≡◌, ℕ, zero, suc, ◌+◌, Bool, true, false, List, [], ◌∷◌, Some, slice_get, refl, sym, ap, ◌∙◌, subst, arith, ⊎_elim}
use Rattle.std.specs.Prelude.{if◌then◌else◌}
use Rattle.spi_term.specs.Lists.{In, in_first, in_later}
use Rattle.spi_term.proofs.Lists.{in_cases, some_is}

abbrev pub chosen : {A B : Type 0} → (A → Bool) → (ℕ → B) → ℕ → List A → List B
chosen on f i [] = []
chosen on f i (x ∷ xs) = if on x then f i ∷ chosen on f (suc i) xs else chosen on f (suc i) xs

pub record InChosen {A B : Type 0} (on : A → Bool) (f : ℕ → B) (i : ℕ) (xs : List A) (y : B) : Type 0 where
  pub place : ℕ
  pub item : A
  pub there : slice_get xs place ≡ Some item
  pub chooses : on item ≡ true
  pub is : y ≡ f (i + place)

pub in_chosen : {A B : Type 0} (on : A → Bool) (f : ℕ → B) (i : ℕ) (xs : List A) (y : B) → In y (chosen on f i xs) → InChosen on f i xs y
in_chosen on f i [] y h = elim h [ ]
in_chosen {A} {B} on f i (x ∷ xs) y h = by (λ k. in_chosen on f (suc i) xs y k) (on x) refl h
  where
    later : InChosen on f (suc i) xs y → InChosen on f i (x ∷ xs) y
    later w =
        let e : suc i + w.place ≡ i + suc w.place = omega arith in
        record { place = suc w.place; item = w.item; there = w.there; chooses = w.chooses; is = w.is ∙ ap f e }

    by : (In y (chosen on f (suc i) xs) → InChosen on f (suc i) xs y) → (z : Bool) → on x ≡ z → In y (if z then f i ∷ chosen on f (suc i) xs else chosen on f (suc i) xs) → InChosen on f i (x ∷ xs) y
    by go true e h = ⊎_elim (λ g. let k : i ≡ i + 0 = omega arith in record { place = 0; item = x; there = refl; chooses = e; is = g ∙ ap f k }) (λ k. later (go k)) (in_cases h)
    by go false e h = later (go h)

pub chosen_in : {A B : Type 0} (on : A → Bool) (f : ℕ → B) (i k : ℕ) (xs : List A) (x : A) → slice_get xs k ≡ Some x → on x ≡ true → In (f (i + k)) (chosen on f i xs)
chosen_in on f i k [] x e t = absurd cc
chosen_in on f i zero (y ∷ xs) x e t =
    let g : i ≡ i + 0 = omega arith in
    subst (λ z. In (f (i + 0)) (if z then f i ∷ chosen on f (suc i) xs else chosen on f (suc i) xs)) (sym (ap on (some_is e) ∙ t)) (subst (λ n. In (f n) (f i ∷ chosen on f (suc i) xs)) g in_first)
chosen_in {A} {B} on f i (suc k) (y ∷ xs) x e t =
    let g : suc i + k ≡ i + suc k = omega arith in
    by (on y) (subst (λ n. In (f n) (chosen on f (suc i) xs)) g (chosen_in on f (suc i) k xs x e t))
  where
    by : (z : Bool) → In (f (i + suc k)) (chosen on f (suc i) xs) → In (f (i + suc k)) (if z then f i ∷ chosen on f (suc i) xs else chosen on f (suc i) xs)
    by true h = in_later h
    by false h = h
