-- Elements of lists that are set or are longer.
use Rattle.std.proofs.Common.{◌≡◌, ℕ, zero, suc, List, [], ◌∷◌, ◌++◌, slice_set, refl, ap}
use Rattle.spi_term.specs.Lists.{At, at_first, at_later}

pub at_set : {A : Type 0} {xs : List A} {i : ℕ} {x : A} (y : A) → At xs i x → At (slice_set xs i y) i y
at_set y at_first = at_first
at_set y (at_later h) = at_later (at_set y h)

pub at_set_other : {A : Type 0} {xs : List A} {j : ℕ} {x : A} (i : ℕ) (y : A) → (i ≡ j → ⊥) → At xs j x → At (slice_set xs i y) j x
at_set_other zero y d at_first = absurd (d refl)
at_set_other zero y d (at_later h) = at_later h
at_set_other (suc i) y d at_first = at_first
at_set_other (suc i) y d (at_later h) = at_later (at_set_other i y (λ e. d (ap suc e)) h)

pub set_other : {A : Type 0} (xs : List A) (i j : ℕ) {x : A} (y : A) → (i ≡ j → ⊥) → At (slice_set xs i y) j x → At xs j x
set_other [] i j y d h = elim h [ ]
set_other (z ∷ xs) zero zero y d h = absurd (d refl)
set_other (z ∷ xs) zero (suc j) y d (at_later h) = at_later h
set_other (z ∷ xs) (suc i) zero y d at_first = at_first
set_other (z ∷ xs) (suc i) (suc j) y d (at_later h) = at_later (set_other xs i j y (λ e. d (ap suc e)) h)

pub nil_at : {A : Type 0} (xs : List A) (i : ℕ) {x : A} → At (xs ++ []) i x → At xs i x
nil_at [] i h = elim h [ ]
nil_at (z ∷ xs) zero at_first = at_first
nil_at (z ∷ xs) (suc i) (at_later h) = at_later (nil_at xs i h)
