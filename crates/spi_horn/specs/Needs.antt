-- What a place of an order needs.
use Rattle.std.specs.Prelude.{◌≡◌, ℕ, ◌<◌, ◌≤◌, ◌⊎◌, Bool, true, List, Option, Some, slice_get, slice_set, length}
use Rattle.spi_horn.specs.declared.rules.Rule.{Rule}
use Rattle.spi_horn.specs.declared.rules.Reached.{Reached}
use Rattle.spi_horn.specs.declared.rules.Why.{Why}
use Rattle.spi_horn.specs.declared.rules.Why.TheVariants.{Start, ByRule}
use Rattle.spi_horn.specs.declared.tracing.Line.{Line}
use Rattle.spi_horn.specs.declared.tracing.Ground.{Ground}
use Rattle.spi_horn.specs.declared.tracing.Ground.TheVariants as G
use Rattle.spi_horn.specs.Leading.{IsPlacedAt}

abbrev pub IsMarked : List Bool → ℕ → Type 0
IsMarked marks t = slice_get marks t ≡ Some true

-- the number n's place is marked
abbrev pub MarksPlace : List (Option ℕ) → ℕ → List Bool → List Bool → Type 0
MarksPlace places n marks marks' = (s : ℕ) × IsPlacedAt places n s × (marks' ≡ slice_set marks s true)

-- at the place s stands a premise of the number at the place u
abbrev pub IsPremiseUse : List Rule → List Reached → List (Option ℕ) → ℕ → ℕ → Type 0
IsPremiseUse rules order places s u = (x : Reached) × (k : ℕ) × (r : Rule) × (slice_get order u ≡ Some x)
    × (x.why ≡ ByRule k)
    × (slice_get rules k ≡ Some r) × (IsPlacedAt places r.first s ⊎ IsPlacedAt places r.second s)

-- the premises of the number at the place t are marked too, where it is
pub record SpreadsMarks (rules : List Rule) (order : List Reached) (places : List (Option ℕ)) (t : ℕ)
    (marks marks' : List Bool) : Type 0 where
  pub count : length marks' ≡ length marks
  pub kept : (s : ℕ) → IsMarked marks s → IsMarked marks' s
  pub premises : (s : ℕ) → IsMarked marks t → IsPremiseUse rules order places s t → IsMarked marks' s
  pub only : (s : ℕ) → IsMarked marks' s
      → IsMarked marks s ⊎ (IsMarked marks t × IsPremiseUse rules order places s t)

-- from the place t on, marks go to premises; and each mark but the goal's is that of a premise
pub record IsSpread (rules : List Rule) (order : List Reached) (places : List (Option ℕ)) (goal t : ℕ)
    (marks : List Bool) : Type 0 where
  pub target : IsMarked marks goal
  pub closed : (s u : ℕ) → t ≤ u → IsMarked marks u → IsPremiseUse rules order places s u → IsMarked marks s
  pub used : (s : ℕ) → IsMarked marks s
      → (s ≡ goal) ⊎ ((u : ℕ) × IsMarked marks u × IsPremiseUse rules order places s u)

-- a line's ground says a reason, with the lines of the premises
abbrev pub SaysWhy : List Rule → List (Option ℕ) → List ℕ → Why → Ground → Type 0
SaysWhy rules places line_at (Start j) g = g ≡ G.Start j
SaysWhy rules places line_at (ByRule k) g = (a b : ℕ) × (g ≡ G.ByRule k a b)
    × ((r : Rule) (s : ℕ) → slice_get rules k ≡ Some r → IsPlacedAt places r.first s
    → slice_get line_at s ≡ Some a)
    × ((r : Rule) (s : ℕ) → slice_get rules k ≡ Some r → IsPlacedAt places r.second s
    → slice_get line_at s ≡ Some b)

-- the line of the place t
abbrev pub SaysAt : List Rule → List Reached → List (Option ℕ) → List ℕ → ℕ → Line → Type 0
SaysAt rules order places line_at t y = (x : Reached) → slice_get order t ≡ Some x
    → (y.number ≡ x.number) × SaysWhy rules places line_at x.why y.ground

-- the places below t that are marked have lines, in their order
pub record AreMarkedWritten (rules : List Rule) (order : List Reached) (places : List (Option ℕ))
    (marks : List Bool)
    (t : ℕ) (lines : List Line) (line_at : List ℕ) : Type 0 where
  pub count : length line_at ≡ t
  pub few : length lines ≤ t
  pub within : (s l : ℕ) → slice_get line_at s ≡ Some l → l ≤ length lines
  pub below : (s l : ℕ) → slice_get line_at s ≡ Some l → IsMarked marks s → l < length lines
  pub marked : (s l : ℕ) → slice_get line_at s ≡ Some l → IsMarked marks s → (x : Reached)
      → slice_get order s ≡ Some x
      → (y : Line) × (slice_get lines l ≡ Some y) × (y.number ≡ x.number)
      × SaysWhy rules places line_at x.why y.ground
  pub from : (l : ℕ) (y : Line) → slice_get lines l ≡ Some y
      → (s : ℕ) × IsMarked marks s × (slice_get line_at s ≡ Some l)
  pub up : (s u l m : ℕ) → s < u → IsMarked marks s → slice_get line_at s ≡ Some l
      → slice_get line_at u ≡ Some m → l < m
