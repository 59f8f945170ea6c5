-- Places in lists, and tests of their elements.
use Rattle.std.proofs.Common.{◌≡◌, ℕ, zero, suc, Bool, true, false, List, [], ◌∷◌, ◌++◌, Some, slice_get, length, refl, sym, ap, ◌∙◌, ◌||◌, true≢false, ◌⊎◌, inl, inr, ⊎_elim}
use Rattle.std.specs.List.{list_any}
use Rattle.spi_term.proofs.Lists.{some_is}
pub use Rattle.spi_term.proofs.Lists.{get_append}
pub use Rattle.spi_term.proofs.Choices.{truths}

-- a test that some element passes has its place
pub any_at : {A : Type 0} (f : A → Bool) (xs : List A) → list_any f xs ≡ true → (i : ℕ) × (x : A) × (slice_get xs i ≡ Some x) × (f x ≡ true)
any_at f [] h = absurd (true≢false (sym h))
any_at f (x ∷ xs) h = by (f x) refl h (any_at f xs)
  where
    by : (b : Bool) → f x ≡ b → (b || list_any f xs) ≡ true → (list_any f xs ≡ true → (i : ℕ) × (y : _) × (slice_get xs i ≡ Some y) × (f y ≡ true)) → (i : ℕ) × (y : _) × (slice_get (x ∷ xs) i ≡ Some y) × (f y ≡ true)
    by true e _ go = (0, x, refl, e)
    by false e k go = let r = go k in (suc r.0, r.1, r.2, r.3)

-- and a test that an element passes finds one
pub any_from : {A : Type 0} (f : A → Bool) (xs : List A) (i : ℕ) (x : A) → slice_get xs i ≡ Some x → f x ≡ true → list_any f xs ≡ true
any_from f [] i x e h = absurd cc
any_from f (y ∷ xs) zero x e h = ap (λ b. b || list_any f xs) (ap f (some_is e) ∙ h)
any_from f (y ∷ xs) (suc i) x e h = ap (λ b. f y || b) (any_from f xs i x e h) ∙ or_true (f y)
  where
    or_true : (b : Bool) → (b || true) ≡ true
    or_true true = refl
    or_true false = refl

-- a message at the end is that of the list, or the last
pub get_push : {A : Type 0} (xs : List A) (y : A) (i : ℕ) (x : A) → slice_get (xs ++ y ∷ []) i ≡ Some x → (slice_get xs i ≡ Some x) ⊎ ((i ≡ length xs) × (x ≡ y))
get_push [] y zero x e = inr (refl, sym (some_is e))
get_push [] y (suc i) x e = absurd cc
get_push (z ∷ xs) y zero x e = inl e
get_push (z ∷ xs) y (suc i) x e = ⊎_elim inl (λ h. inr (ap suc h.0, h.1)) (get_push xs y i x e)
