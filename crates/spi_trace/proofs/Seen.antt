-- Places in lists that grow at the end.
use Rattle.std.proofs.Common.{◌≡◌, refl, ap, ℕ, suc, ◌⊎◌, inl, inr, ⊎_elim, List, [], ◌∷◌, ◌++◌, length}
use Rattle.spi_term.specs.Lists.{At, at_first, at_later, In, in_first, in_later}

-- an element of a list with one more is one of the list, or that one
pub at_snoc : {A : Type 0} (xs : List A) {y x : A} {i : ℕ} → At (xs ++ y ∷ []) i x → At xs i x ⊎ ((i ≡ length xs) × (x ≡ y))
at_snoc [] at_first = inr (refl, refl)
at_snoc [] (at_later a) = elim a [ ]
at_snoc (z ∷ xs) at_first = inl at_first
at_snoc (z ∷ xs) (at_later a) = ⊎_elim (λ b. inl (at_later b)) (λ h. inr (ap suc h.0, h.1)) (at_snoc xs a)

pub at_in : {A : Type 0} {xs : List A} {i : ℕ} {x : A} → At xs i x → In x xs
at_in at_first = in_first
at_in (at_later a) = in_later (at_in a)

-- the list with one more, and then others
pub and_then : {A : Type 0} (xs : List A) (x : A) (ys : List A) → (xs ++ x ∷ []) ++ ys ≡ xs ++ (x ∷ ys)
and_then [] x ys = refl
and_then (y ∷ xs) x ys = ap (λ zs. y ∷ zs) (and_then xs x ys)
