-- Values in the order of their numbers, and the shallow nodes that stand for them.
use Rattle.std.specs.Prelude.{◌≡◌, ℕ, Bool, List, [], ◌∷◌, ◌++◌, Some, slice_get, fold, if◌then◌else◌}
use Rattle.std.specs.List.{list_any}

-- each number means what it meant
pub record KeepsAll {M : Type 0} (old new : List M) : Type 0 where
  pub at : (i : ℕ) (m : M) → slice_get old i ≡ Some m → slice_get new i ≡ Some m

-- no value has two numbers
pub record AllDiffer {M : Type 0} (ms : List M) : Type 0 where
  pub one : (i j : ℕ) (m : M) → slice_get ms i ≡ Some m → slice_get ms j ≡ Some m → i ≡ j

-- each node in turn says the value at its place
pub data TellsAll {P M : Type 0} (S : P → M → Type 0) : List P → List M → Type 0 where
  tells_none : TellsAll S [] []
  tells_next : {p : P} {m : M} {ps : List P} {ms : List M} → S p m → TellsAll S ps ms
      → TellsAll S (p ∷ ps) (m ∷ ms)

-- the values with m, at the end where it is new
abbrev pub with_value : {M : Type 0} → (M → M → Bool) → List M → M → List M
with_value same ms m = if list_any (same m) ms then ms else ms ++ m ∷ []

abbrev pub next_told : {P M : Type 0} → (List M → P → M) → List M → P → List M
next_told said ms p = ms ++ said ms p ∷ []

-- the values that the nodes say, each by those before it
abbrev pub told_each : {P M : Type 0} → (List M → P → M) → List P → List M
told_each said ps = fold (next_told said) [] ps

-- each node says the value at its place, and no value stands twice
pub record IsTable {P M : Type 0} (Says : List M → P → M → Type 0) (ps : List P) (ms : List M) : Type 0 where
  pub tells : TellsAll (Says ms) ps ms
  pub distinct : AllDiffer ms
