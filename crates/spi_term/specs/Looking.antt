-- Sorted lists of atoms, the places of atoms in them, and counts that stand at these places: the terms of the calls on sorted effects.
use Rattle.std.specs.Prelude.{◌≡◌, ℕ, suc, ◌<◌, ◌≤◌, true, false, List, Option, Some, None, slice_get, slice_index, slice_set}
use Rattle.std.specs.Ordering.{is_lt}
use Rattle.spi_term.specs.Term.{Atom, Effect}
use Rattle.spi_term.specs.Lists.{In}
use Rattle.spi_term.specs.Counts.{tally, cut, count}
use Rattle.spi_term.specs.Order.{atom_cmp}

-- no atom is before an earlier one
pub record IsInOrder (es : Effect) : Type 0 where
  pub at : (i j : ℕ) (a b : Atom) → i ≤ j → slice_get es i ≡ Some a → slice_get es j ≡ Some b
      → is_lt (atom_cmp b a) ≡ false

-- the first place of an atom, or none where it doesn't stand in the list
abbrev pub IsFirstPlace : Atom → Effect → Option ℕ → Type 0
IsFirstPlace a es None = (k : ℕ) → slice_get es k ≡ Some a → ⊥
IsFirstPlace a es (Some i) = (slice_get es i ≡ Some a) × ((k : ℕ) → k < i → slice_get es k ≡ Some a → ⊥)

-- the atoms before place i are before a, and no other is
pub record IsCut (a : Atom) (es : Effect) (i : ℕ) : Type 0 where
  pub before : (k : ℕ) (b : Atom) → k < i → slice_get es k ≡ Some b → is_lt (atom_cmp b a) ≡ true
  pub after : (k : ℕ) (b : Atom) → i ≤ k → slice_get es k ≡ Some b → is_lt (atom_cmp b a) ≡ false

-- how often each atom of es stands in fs is written at its first place
pub record IsTally (es fs : Effect) (counts : List ℕ) : Type 0 where
  pub at : (a : Atom) (i : ℕ) → IsFirstPlace a es (Some i) → slice_index counts i ≡ tally a fs

-- the counts with one more at the place of an atom
abbrev pub raised : Option ℕ → List ℕ → List ℕ
raised None counts = counts
raised (Some i) counts = slice_set counts i (suc (slice_index counts i))

pub record IsRaised (es : Effect) (a : Atom) (before after : List ℕ) : Type 0 where
  pub place : Option ℕ
  pub is_place : IsFirstPlace a es place
  pub is : after ≡ raised place before

-- at the first place of each atom, what is written in xs is at most what is written in ys
pub record AreFewer (es : Effect) (xs ys : List ℕ) : Type 0 where
  pub at : (a : Atom) (i : ℕ) → IsFirstPlace a es (Some i)
      → cut a (slice_index xs i) ≤ cut a (slice_index ys i)

-- no atom of gs has a count in es above that in fs
pub record AllWithin (gs es fs : Effect) : Type 0 where
  pub at : (a : Atom) → In a gs → count a es ≤ count a fs
