-- Lookups in lists that grow.
use Rattle.std.proofs.Common.{◌≡◌, refl, ap, ℕ, zero, suc, ◌<◌, ◌⊎◌, inl, inr, ⊎_elim, List, [], ◌∷◌, ◌++◌, Some, slice_get, get_or, set, length, arith}
use Rattle.std.proofs.lemmas.Option.{slice_get_read}

-- what is read at a place within
pub get_read : {A : Type 0} (xs : List A) (i : ℕ) (x : A) → i < length xs → x ≡ get_or xs i x → slice_get xs i ≡ Some x
get_read xs i x lt e = slice_get_read xs (length xs) i x refl lt e

pub get_append : {A : Type 0} (xs ys : List A) (i : ℕ) (x : A) → slice_get xs i ≡ Some x → slice_get (xs ++ ys) i ≡ Some x
get_append [] ys i x e = cc
get_append (y ∷ xs) ys zero x e = e
get_append (y ∷ xs) ys (suc i) x e = get_append xs ys i x e

pub get_end : {A : Type 0} (xs : List A) (y : A) → slice_get (xs ++ y ∷ []) (length xs) ≡ Some y
get_end [] y = refl
get_end (x ∷ xs) y = get_end xs y

-- an element of a list with y at its end
pub get_cases : {A : Type 0} (xs : List A) (y : A) (i : ℕ) (x : A) → slice_get (xs ++ y ∷ []) i ≡ Some x → ((i ≡ length xs) × (x ≡ y)) ⊎ (slice_get xs i ≡ Some x)
get_cases [] y zero x e = let f : x ≡ y = cc in inl (refl, f)
get_cases [] y (suc i) x e = cc
get_cases (z ∷ xs) y zero x e = inr e
get_cases (z ∷ xs) y (suc i) x e = ⊎_elim (λ (f, g). inl (ap suc f, g)) (λ f. inr f) (get_cases xs y i x e)

pub get_some : {A : Type 0} (xs : List A) (i : ℕ) → i < length xs → (x : A) × (slice_get xs i ≡ Some x)
get_some [] i lt = absurd (omega arith)
get_some (x ∷ xs) zero lt = (x, refl)
get_some (x ∷ xs) (suc i) lt = get_some xs i (omega arith)

pub get_set_same : {A : Type 0} (xs : List A) (n : ℕ) (v : A) → n < length xs → slice_get (set xs n v) n ≡ Some v
get_set_same [] n v lt = absurd (omega arith)
get_set_same (y ∷ xs) zero v lt = refl
get_set_same (y ∷ xs) (suc n) v lt = get_set_same xs n v (omega arith)

pub set_cases : {A : Type 0} (xs : List A) (n : ℕ) (v : A) (i : ℕ) (x : A) → slice_get (set xs n v) i ≡ Some x → ((i ≡ n) × (x ≡ v)) ⊎ (slice_get xs i ≡ Some x)
set_cases [] n v i x e = inr e
set_cases (y ∷ xs) zero v zero x e = let f : x ≡ v = cc in inl (refl, f)
set_cases (y ∷ xs) zero v (suc i) x e = inr e
set_cases (y ∷ xs) (suc n) v zero x e = inr e
set_cases (y ∷ xs) (suc n) v (suc i) x e = ⊎_elim (λ (f, g). inl (ap suc f, g)) (λ f. inr f) (set_cases xs n v i x e)

pub none_in_nil : {A : Type 0} (i : ℕ) (x : A) → slice_get [] i ≡ Some x → ⊥
none_in_nil i x e = cc
