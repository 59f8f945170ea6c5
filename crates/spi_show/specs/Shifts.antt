-- The numbers that names have behind a prefix, and the least one that none has, or from which on none has any.
use Rattle.std.specs.Prelude.{◌≡◌, ℕ, ◌+◌, ◌*◌, ◌^◌, ◌<◌, ◌≤◌, ◌↔◌, List, [], ◌∷◌, ◌++◌, length, take, Option, Some, None, slice_get}
use Rattle.std.specs.Fmt.{decimal}
use Rattle.std.specs.List.{Contains}

-- the number of at most 128 bits that has these decimal digits
abbrev pub IsDecimal : List ℕ → Option ℕ → Type 0
IsDecimal ds o = (n : ℕ) → n < 2 ^ 128 → ((o ≡ Some n) ↔ (ds ≡ decimal n))

-- the same behind the prefix
abbrev pub IsNumber : List ℕ → List ℕ → Option ℕ → Type 0
IsNumber prefix word o = (n : ℕ) → n < 2 ^ 128 → ((o ≡ Some n) ↔ (word ≡ prefix ++ decimal n))

abbrev pub with_least : List ℕ → Option ℕ → List ℕ
with_least ns None = ns
with_least ns (Some n) = ns ++ n ∷ []

-- one of the first i words has the number n
abbrev pub IsNumberTaken : List ℕ → List (List ℕ) → ℕ → ℕ → Type 0
IsNumberTaken prefix words i n = (x : ℕ) × (x < i) × (slice_get words x ≡ Some (prefix ++ decimal n))

-- the numbers of the first i words
pub record AreWordNumbers (prefix : List ℕ) (words : List (List ℕ)) (i : ℕ) (ns : List ℕ) : Type 0 where
  pub told : (n : ℕ) → n < 2 ^ 128 → (Contains ns n ↔ IsNumberTaken prefix words i n)
  pub few : length ns ≤ i

-- none of the first i numbers is one of 100,000 from s on, and s is the least such number
pub record IsSwept (ns : List ℕ) (i s : ℕ) : Type 0 where
  pub small : s ≤ 100000 * i
  pub apart : (n : ℕ) → Contains (take i ns) n → s ≤ n → n < s + 100000 → ⊥
  pub least : (r : ℕ) → r < s → (n : ℕ) × Contains (take i ns) n × (r ≤ n) × (n < r + 100000)

-- s is the least number from 0 that isn't one of the first i numbers
pub record IsLeastBeside (ns : List ℕ) (i s : ℕ) : Type 0 where
  pub small : s ≤ i
  pub apart : ¬ Contains (take i ns) s
  pub least : (n : ℕ) → n < s → Contains (take i ns) n
