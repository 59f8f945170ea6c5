-- What stays true while rules are tried.
use Rattle.std.specs.Prelude.{◌≡◌, ℕ, suc, ◌+◌, ◌≤◌, ◌⊎◌, List, [], ◌∷◌, ◌++◌, Option, Some, None, slice_get, slice_set, length}
use Rattle.spi_horn.specs.declared.rules.Rule.{Rule}
use Rattle.spi_horn.specs.declared.rules.Reached.{Reached}
use Rattle.spi_horn.specs.declared.rules.Why.{Why}
use Rattle.spi_horn.specs.declared.rules.Why.TheVariants.{ByRule}
use Rattle.spi_horn.specs.Leading.{IsPlacedAt, HasSomePlace, IsOrder}

abbrev pub reached : ℕ → Why → Reached
reached n why = record { number = n; why = why }

-- how many numbers have no place
abbrev pub unplaced : List (Option ℕ) → ℕ
unplaced [] = 0
unplaced (Some t ∷ ps) = unplaced ps
unplaced (None ∷ ps) = suc (unplaced ps)

-- the order and the places after a number was added
abbrev pub AddsNumber : ℕ → Why → List Reached → List (Option ℕ) → List Reached → List (Option ℕ) → Type 0
AddsNumber n why order places order' places' =
    (HasSomePlace places n × (order' ≡ order) × (places' ≡ places))
    ⊎ ((slice_get places n ≡ Some None) × (order' ≡ order ++ reached n why ∷ [])
    × (places' ≡ slice_set places n (Some (length order))))

-- and after the rule number k was tried
abbrev pub Tries : Rule → ℕ → List Reached → List (Option ℕ) → List Reached → List (Option ℕ) → Type 0
Tries r k order places order' places' =
    ((HasSomePlace places r.first → HasSomePlace places r.second → ⊥) × (order' ≡ order) × (places' ≡ places))
    ⊎ (HasSomePlace places r.first × HasSomePlace places r.second
    × AddsNumber r.gives (ByRule k) order places order' places')

-- k stands in a list, from the place i on
abbrev pub IsLeftFrom : List ℕ → ℕ → ℕ → Type 0
IsLeftFrom ks i k = (j : ℕ) × (i ≤ j) × (slice_get ks j ≡ Some k)

-- the numbers before c were looked at: each rule with both premises there has given its conclusion, or is left
pub record IsLookedThrough (rules : List Rule) (start : List ℕ) (order : List Reached)
    (places : List (Option ℕ))
    (c : ℕ) (left : List ℕ) (i : ℕ) : Type 0 where
  pub ordered : IsOrder rules start order places
  pub count : unplaced places + length order ≡ length places
  pub ahead : c ≤ length order
  pub done : (k : ℕ) (r : Rule) (s t : ℕ) → slice_get rules k ≡ Some r → IsPlacedAt places r.first s
      → IsPlacedAt places r.second t
      → HasSomePlace places r.gives ⊎ ((c ≤ s) ⊎ ((c ≤ t) ⊎ IsLeftFrom left i k))

-- each place is kept
abbrev pub KeepsPlaces : List (Option ℕ) → List (Option ℕ) → Type 0
KeepsPlaces places places' = (length places' ≡ length places)
    × ((n t : ℕ) → IsPlacedAt places n t → IsPlacedAt places' n t)
