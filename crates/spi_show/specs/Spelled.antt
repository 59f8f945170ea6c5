-- How names are spelled in canonical texts.
use Rattle.std.specs.Prelude.{◌≡◌, ℕ, ◌+◌, ◌<◌, ◌≤◌, List, ◌++◌, codes, Option, Some, None, slice_get}
use Rattle.std.specs.Fmt.{decimal}

-- a bound name with this number, where numbers are moved up by s
abbrev pub bound_text : ℕ → ℕ → List ℕ
bound_text s i = codes "v" ++ decimal (i + s)

abbrev pub given_text : Option (List ℕ) → List ℕ → List ℕ
given_text None other = other
given_text (Some word) other = word

-- the name with this number: a free name as it was spelled, and every other by its number
abbrev pub name_text : ℕ → List (List ℕ) → ℕ → List ℕ
name_text s free i = given_text (slice_get free i) (bound_text s i)

-- a name in a derivation
abbrev pub numbered_text : ℕ → List ℕ
numbered_text i = codes "#" ++ decimal i

-- no free name is spelled as one of 100,000 bound names from this number on
abbrev pub IsApart : List (List ℕ) → ℕ → Type 0
IsApart free s = (i x : ℕ) → s ≤ i → i < s + 100000 → slice_get free x ≡ Some (codes "v" ++ decimal i) → ⊥

-- the least such number
pub record IsShift (free : List (List ℕ)) (s : ℕ) : Type 0 where
  pub apart : IsApart free s
  pub least : (r : ℕ) → r < s → IsApart free r → ⊥

-- one of the words is the prefix and the decimal digits of this number
abbrev pub IsNumbered : List (List ℕ) → List ℕ → ℕ → Type 0
IsNumbered words prefix n = (x : ℕ) × (slice_get words x ≡ Some (prefix ++ decimal n))

-- the least number from 0 for which none is
pub record IsLeastBehind (words : List (List ℕ)) (prefix : List ℕ) (s : ℕ) : Type 0 where
  pub free : ¬ IsNumbered words prefix s
  pub least : (n : ℕ) → n < s → IsNumbered words prefix n
