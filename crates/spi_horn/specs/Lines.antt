-- Lines that lead to a number, each by earlier ones.
use Rattle.std.specs.Prelude.{◌≡◌, ℕ, suc, ◌<◌, ◌⊎◌, List, Some, slice_get, length}
use Rattle.spi_horn.specs.declared.rules.Rule.{Rule}
use Rattle.spi_horn.specs.declared.tracing.Line.{Line}
use Rattle.spi_horn.specs.declared.tracing.Ground.{Ground}
use Rattle.spi_horn.specs.declared.tracing.Ground.TheVariants.{Start, ByRule}

-- the line a, before the line l, has the number n
abbrev pub SaysBefore : List Line → ℕ → ℕ → ℕ → Type 0
SaysBefore lines l a n = (x : Line) × (a < l) × (slice_get lines a ≡ Some x) × (x.number ≡ n)

-- the line l may have the number n; where a rule has one premise twice, one line is named twice
abbrev pub HoldsOfLine : List Rule → List ℕ → List Line → ℕ → ℕ → Ground → Type 0
HoldsOfLine rules start lines l n (Start j) = slice_get start j ≡ Some n
HoldsOfLine rules start lines l n (ByRule k a b) =
    (r : Rule) × (slice_get rules k ≡ Some r) × (r.gives ≡ n) × SaysBefore lines l a r.first
    × SaysBefore lines l b r.second × (r.first ≡ r.second → a ≡ b)

-- a line with this ground names the line i
abbrev pub NamesLine : Ground → ℕ → Type 0
NamesLine (Start j) i = ⊥
NamesLine (ByRule k a b) i = (a ≡ i) ⊎ (b ≡ i)

-- each line holds by earlier lines, the last has the target, and each other one is named by a later one
pub record ProvesTarget (rules : List Rule) (start : List ℕ) (lines : List Line) (target : ℕ) : Type 0 where
  pub each : (l : ℕ) (x : Line) → slice_get lines l ≡ Some x
      → HoldsOfLine rules start lines l x.number x.ground
  pub last : (l : ℕ) × (x : Line) × (suc l ≡ length lines) × (slice_get lines l ≡ Some x)
      × (x.number ≡ target)
  pub used : (l : ℕ) → suc l < length lines
      → (m : ℕ) × (x : Line) × (l < m) × (slice_get lines m ≡ Some x) × NamesLine x.ground l
