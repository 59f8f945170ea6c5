-- What is still to be left out of an effect, atom by atom, while a difference is made. No public clause names it.
use Rattle.std.specs.Prelude.{◌≡◌, ℕ, ◌-◌, Bool, false, nat_lt, List, Option, Some, None, slice_index, slice_set}
use Rattle.spi_term.specs.Term.{Atom, ends, checks, many, Effect}
use Rattle.spi_term.specs.Counts.{tally}
use Rattle.spi_term.specs.Looking.{IsFirstPlace}

-- how many of an atom are still to be left out after n of them, where k are to be left out in all; of a `many` each is, if any
abbrev pub owed : Atom → ℕ → ℕ → ℕ
owed (ends m) n k = k - n
owed (checks m) n k = k - n
owed (many m) n k = k

-- it is written at the place of each atom, after those of es
pub record IsOwed (sorted es fs : Effect) (left : List ℕ) : Type 0 where
  pub at : (a : Atom) (i : ℕ) → IsFirstPlace a sorted (Some i)
      → slice_index left i ≡ owed a (tally a es) (tally a fs)

abbrev pub is_owed : Option ℕ → List ℕ → Bool
is_owed None left = false
is_owed (Some i) left = nat_lt 0 (slice_index left i)

-- one more of an atom is met
abbrev pub lowered : Atom → Option ℕ → List ℕ → List ℕ
lowered a None left = left
lowered (ends m) (Some i) left = slice_set left i (slice_index left i - 1)
lowered (checks m) (Some i) left = slice_set left i (slice_index left i - 1)
lowered (many m) (Some i) left = left

pub record IsMet (sorted : Effect) (a : Atom) (before after : List ℕ) (out : Bool) : Type 0 where
  pub place : Option ℕ
  pub is_place : IsFirstPlace a sorted place
  pub is : after ≡ lowered a place before
  pub answer : out ≡ is_owed place before
