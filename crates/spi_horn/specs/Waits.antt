-- Rules that wait for their premises.
use Rattle.std.specs.Prelude.{◌≡◌, ℕ, ◌<◌, List, [], ◌∷◌, ◌++◌, Some, slice_get, slice_set, length}
use Rattle.spi_horn.specs.declared.rules.Rule.{Rule}
use Rattle.spi_horn.specs.declared.waiting.Waiting.{Waiting}

abbrev pub numbers : Waiting → List ℕ
numbers w = w.rules.items

-- the number k is written at the end of the list at p
abbrev pub PutsWait : ℕ → ℕ → List (List ℕ) → List (List ℕ) → Type 0
PutsWait p k old new = (ks : List ℕ) × (slice_get old p ≡ Some ks) × (new ≡ slice_set old p (ks ++ k ∷ []))

-- k stands in the list at p
abbrev pub WaitsAt : List (List ℕ) → ℕ → ℕ → Type 0
WaitsAt lists p k = (ks : List ℕ) → slice_get lists p ≡ Some ks → (i : ℕ) × (slice_get ks i ≡ Some k)

-- each rule below n waits at both its premises, and only rules wait
pub record RulesWait (rules : List Rule) (n : ℕ) (lists : List (List ℕ)) : Type 0 where
  pub first : (k : ℕ) (r : Rule) → k < n → slice_get rules k ≡ Some r → WaitsAt lists r.first k
  pub second : (k : ℕ) (r : Rule) → k < n → slice_get rules k ≡ Some r → WaitsAt lists r.second k
  pub within : (p : ℕ) (ks : List ℕ) → slice_get lists p ≡ Some ks → (i k : ℕ) → slice_get ks i ≡ Some k
      → k < length rules
