-- What rules of two premises lead to.
use Rattle.std.specs.Prelude.{◌≡◌, ℕ, ◌<◌, List, Option, Some, slice_get}
use Rattle.spi_horn.specs.declared.rules.Rule.{Rule}
use Rattle.spi_horn.specs.declared.rules.Reached.{Reached}
use Rattle.spi_horn.specs.declared.rules.Why.{Why}
use Rattle.spi_horn.specs.declared.rules.Why.TheVariants.{Start, ByRule}

-- the rules speak of numbers below n, and so does the start
abbrev pub SpeaksBelow : ℕ → List Rule → Type 0
SpeaksBelow n rules = (k : ℕ) (r : Rule) → slice_get rules k ≡ Some r
    → (r.first < n) × (r.second < n) × (r.gives < n)

abbrev pub StartsWithin : ℕ → List ℕ → Type 0
StartsWithin n start = (j x : ℕ) → slice_get start j ≡ Some x → x < n

-- what the rules lead to from the start
pub data Derived (rules : List Rule) (start : List ℕ) : ℕ → Type 0 where
  derived_start : {n : ℕ} (j : ℕ) → slice_get start j ≡ Some n → Derived rules start n
  derived_rule : (k : ℕ) (r : Rule) → slice_get rules k ≡ Some r
      → Derived rules start r.first → Derived rules start r.second → Derived rules start r.gives

-- the number n has the place t; it has a place; it has one before t
abbrev pub IsPlacedAt : List (Option ℕ) → ℕ → ℕ → Type 0
IsPlacedAt places n t = slice_get places n ≡ Some (Some t)

abbrev pub HasSomePlace : List (Option ℕ) → ℕ → Type 0
HasSomePlace places n = (t : ℕ) × IsPlacedAt places n t

abbrev pub StandsBefore : List (Option ℕ) → ℕ → ℕ → Type 0
StandsBefore places t n = (s : ℕ) × (s < t) × IsPlacedAt places n s

-- why n may have the place t
abbrev pub IsReason : List Rule → List ℕ → List (Option ℕ) → ℕ → ℕ → Why → Type 0
IsReason rules start places t n (Start j) = slice_get start j ≡ Some n
IsReason rules start places t n (ByRule k) =
    (r : Rule) × (slice_get rules k ≡ Some r) × (r.gives ≡ n) × StandsBefore places t r.first
    × StandsBefore places t r.second

-- numbers in an order, each once, with its place and with a reason that looks back
pub record IsOrder (rules : List Rule) (start : List ℕ) (order : List Reached)
    (places : List (Option ℕ)) : Type 0 where
  pub placed : (n t : ℕ) → IsPlacedAt places n t
      → (x : Reached) × (slice_get order t ≡ Some x) × (x.number ≡ n)
  pub stands : (t : ℕ) (x : Reached) → slice_get order t ≡ Some x → IsPlacedAt places x.number t
  pub reasons : (t : ℕ) (x : Reached) → slice_get order t ≡ Some x
      → IsReason rules start places t x.number x.why

-- exactly what the rules lead to has a place: the start has, no rule adds another, and what has one is derived
pub record IsLeastModel (rules : List Rule) (start : List ℕ) (places : List (Option ℕ)) : Type 0 where
  pub started : (j n : ℕ) → slice_get start j ≡ Some n → HasSomePlace places n
  pub closed : (k : ℕ) (r : Rule) → slice_get rules k ≡ Some r → HasSomePlace places r.first
      → HasSomePlace places r.second → HasSomePlace places r.gives
  pub derived : (n : ℕ) → HasSomePlace places n → Derived rules start n
