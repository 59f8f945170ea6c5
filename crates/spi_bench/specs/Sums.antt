-- What a bench counts over its parts.
use Rattle.std.specs.Prelude.{◌≡◌, ℕ, ◌+◌, ◌-◌, ◌<◌, ◌≤◌, Bool, true, false, eqb, nat_lt, if◌then◌else◌, List, [], ◌∷◌, length, Option, Some, None, slice_index, ⊤}
use Rattle.std.specs.List.{sum_by}
use Rattle.spi_term.specs.Term.{Message, bound, name, unit, pair, in_left, in_right, enc, hash, Atom, ends, checks, many, Effect, process_size}
use Rattle.spi_term.specs.View as View
use Rattle.spi_term.specs.declared.term.Effect as Declared
use Rattle.spi_bench.specs.declared.slot.Slot.{Slot}
use Rattle.spi_bench.specs.declared.sums.Sums.{Sums}

-- the number of the shared name, where k names are free and n are shared
abbrev pub shared_at : ℕ → ℕ → ℕ → Option ℕ
shared_at k n x = if nat_lt x k then None else (if nat_lt (x - k) n then Some (x - k) else None)

-- the number of the shared name that a message is
abbrev pub shared_name : ℕ → ℕ → Message → Option ℕ
shared_name k n (bound i) = None
shared_name k n (name x) = shared_at k n x
shared_name k n unit = None
shared_name k n (pair a b) = None
shared_name k n (in_left a) = None
shared_name k n (in_right a) = None
shared_name k n (enc a b) = None
shared_name k n (hash a) = None

-- where an atom is counted: at the shared name that it checks, or with all others
abbrev pub place_of_atom : ℕ → ℕ → Atom → Option ℕ
place_of_atom k n (ends m) = None
place_of_atom k n (checks m) = shared_name k n m
place_of_atom k n (many m) = None

abbrev pub same_place : Option ℕ → Option ℕ → Bool
same_place None None = true
same_place None (Some j) = false
same_place (Some i) None = false
same_place (Some i) (Some j) = eqb i j

-- how many atoms of an effect are counted there
abbrev pub atom_times : ℕ → ℕ → Option ℕ → Effect → ℕ
atom_times k n w [] = 0
atom_times k n w (a ∷ es) = (if same_place (place_of_atom k n a) w then 1 else 0) + atom_times k n w es

-- what is counted: nodes, parts with no effect, atoms, and atoms by the place where they are counted
pub data Measure : Type 0 where
  nodes : Measure
  blocked : Measure
  atoms : Measure
  placed : (place : Option ℕ) → Measure

abbrev pub of_least : (Effect → ℕ) → Option Declared.Effect → ℕ
of_least f None = 0
of_least f (Some e) = f (View.effect e)

abbrev pub if_none : Option Declared.Effect → ℕ
if_none None = 1
if_none (Some e) = 0

abbrev pub measured : ℕ → ℕ → Measure → Slot → ℕ
measured k n nodes s = process_size s.part.process
measured k n blocked s = if_none s.least
measured k n atoms s = of_least length s.least
measured k n (placed w) s = of_least (atom_times k n w) s.least

abbrev pub of_slot : ℕ → ℕ → Measure → Option Slot → ℕ
of_slot k n m None = 0
of_slot k n m (Some s) = measured k n m s

abbrev pub total : ℕ → ℕ → Measure → List (Option Slot) → ℕ
total k n m ss = sum_by (of_slot k n m) ss

-- where the sums have a count
abbrev pub at_place : Sums → Option ℕ → ℕ
at_place s None = s.others
at_place s (Some i) = slice_index s.checks.items i

abbrev pub counted : Sums → Measure → ℕ
counted s nodes = s.nodes
counted s blocked = s.blocked
counted s atoms = s.atoms
counted s (placed w) = at_place s w

-- n names are shared
abbrev pub IsSharedPlace : ℕ → Option ℕ → Type 0
IsSharedPlace n None = ⊤
IsSharedPlace n (Some i) = i < n

abbrev pub IsMeasure : ℕ → Measure → Type 0
IsMeasure n nodes = ⊤
IsMeasure n blocked = ⊤
IsMeasure n atoms = ⊤
IsMeasure n (placed w) = IsSharedPlace n w

abbrev pub shared_in : Sums → ℕ
shared_in s = length s.checks.items

-- the atoms are counted too, and nothing else
pub record AddsAtoms (old new : Sums) (es : Effect) : Type 0 where
  pub free : new.free ≡ old.free
  pub shared : shared_in new ≡ shared_in old
  pub nodes : new.nodes ≡ old.nodes
  pub blocked : new.blocked ≡ old.blocked
  pub atoms : new.atoms ≡ old.atoms
  pub at : (w : Option ℕ) → IsSharedPlace (shared_in old) w
      → at_place new w ≡ at_place old w + atom_times old.free (shared_in old) w es

-- a count over slots and of one slot, with the names of these sums
abbrev pub total_in : Sums → Measure → List (Option Slot) → ℕ
total_in s m ss = total s.free (shared_in s) m ss

abbrev pub slot_in : Sums → Measure → Option Slot → ℕ
slot_in s m slot = of_slot s.free (shared_in s) m slot

abbrev pub times_in : Sums → Option ℕ → Effect → ℕ
times_in s w es = atom_times s.free (shared_in s) w es

-- a slot is counted too
pub record AddsSlot (old new : Sums) (s : Option Slot) : Type 0 where
  pub free : new.free ≡ old.free
  pub shared : shared_in new ≡ shared_in old
  pub each : (m : Measure) → IsMeasure (shared_in old) m
      → counted new m ≡ counted old m + of_slot old.free (shared_in old) m s

-- the sums are those of the slots
pub record AreSums (s : Sums) (ss : List (Option Slot)) : Type 0 where
  pub each : (m : Measure) → IsMeasure (shared_in s) m → counted s m ≡ total s.free (shared_in s) m ss

-- no part is without an effect, and each atom that is counted is a `check x` of a shared name x, once for each at most
pub record ArePaid (s : Sums) : Type 0 where
  pub effects : s.blocked ≡ 0
  pub others : s.others ≡ 0
  pub once : (i : ℕ) → i < shared_in s → slice_index s.checks.items i ≤ 1
