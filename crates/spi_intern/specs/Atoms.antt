-- Atoms with numbers, lists of them in the store's order, and how often each stands there.
use Rattle.std.specs.Prelude.{◌≡◌, ℕ, ◌+◌, ◌<◌, ◌≤◌, min, Bool, true, false, ◌&&◌, if◌then◌else◌, List, [], ◌∷◌, Some, slice_get, ◌==◌, Vec}
use Rattle.std.specs.declared.alloc.Global.{Global}
use Rattle.spi_term.specs.Term.{Message, Atom, ends, checks, many, Effect}
use Rattle.spi_term.specs.Counts.{tally, SameEffect}
use Rattle.spi_intern.specs.Table.{TellsAll}
use Rattle.spi_intern.specs.declared.messages.MsgId.{MsgId}
use Rattle.spi_intern.specs.declared.atoms.AtomId.{AtomId}
use Rattle.spi_intern.specs.declared.atoms.AtomId.TheVariants.{End, Check, Many}

-- the atom with this number for its message
pub data SaysAtom (ms : List Message) : AtomId → Atom → Type 0 where
  says_end : {a : MsgId} {m : Message} → slice_get ms a.place ≡ Some m → SaysAtom ms (End a) (ends m)
  says_check : {a : MsgId} {m : Message} → slice_get ms a.place ≡ Some m → SaysAtom ms (Check a) (checks m)
  says_many : {a : MsgId} {m : Message} → slice_get ms a.place ≡ Some m → SaysAtom ms (Many a) (many m)

abbrev pub same_id_atom : AtomId → AtomId → Bool
same_id_atom (End a) (End b) = a.place == b.place
same_id_atom (Check a) (Check b) = a.place == b.place
same_id_atom (Many a) (Many b) = a.place == b.place
same_id_atom a b = false

-- how often an atom stands in a list
abbrev pub times : AtomId → List AtomId → ℕ
times a [] = 0
times a (b ∷ xs) = (if same_id_atom a b then 1 else 0) + times a xs

-- the order of a store: by constructor, then by number
abbrev pub group : AtomId → ℕ
group (End a) = 0
group (Check a) = 1
group (Many a) = 2

abbrev pub atom_place : AtomId → ℕ
atom_place (End a) = a.place
atom_place (Check a) = a.place
atom_place (Many a) = a.place

pub data IsNotAfter (a b : AtomId) : Type 0 where
  by_group : group a < group b → IsNotAfter a b
  by_place : group a ≡ group b → atom_place a ≤ atom_place b → IsNotAfter a b

-- no atom is after one that comes later
pub data InOrder : List AtomId → Type 0 where
  order_none : InOrder []
  order_next : {x : AtomId} {xs : List AtomId} → ((z : AtomId) → 1 ≤ times z (x ∷ xs) → IsNotAfter x z)
      → InOrder xs → InOrder (x ∷ xs)

-- the numbers of an effect's atoms: the counts are its counts, each `many` stands once, and they are in order
pub record IdsMean (ms : List Message) (ids : List AtomId) (es : Effect) : Type 0 where
  pub told : Effect
  pub each : TellsAll (SaysAtom ms) ids told
  pub same : SameEffect told es
  pub once : (m : Message) → tally (many m) told ≤ 1
  pub order : InOrder ids

-- a count, which for `many` is at most 1
abbrev pub cut_times : AtomId → ℕ → ℕ
cut_times (End a) n = n
cut_times (Check a) n = n
cut_times (Many a) n = min n 1

-- each atom of xs, and each `many` once
pub record IsCutTo (xs ys : List AtomId) : Type 0 where
  pub at : (a : AtomId) → times a ys ≡ cut_times a (times a xs)

abbrev pub is_many : AtomId → Bool
is_many (End a) = false
is_many (Check a) = false
is_many (Many a) = true

-- the first is a `many` that stands next again
abbrev pub repeats : List AtomId → Bool
repeats [] = false
repeats (x ∷ []) = false
repeats (x ∷ (y ∷ xs)) = is_many x && same_id_atom x y

-- the list without each `many` that stands next again
abbrev pub without_repeats : List AtomId → List AtomId
without_repeats [] = []
without_repeats (x ∷ xs) = if repeats (x ∷ xs) then without_repeats xs else x ∷ without_repeats xs

-- a list of atoms as a value of a table
abbrev pub same_atoms : List AtomId → List AtomId → Bool
same_atoms [] [] = true
same_atoms [] (b ∷ bs) = false
same_atoms (a ∷ xs) [] = false
same_atoms (a ∷ xs) (b ∷ ys) = same_id_atom a b && same_atoms xs ys

abbrev pub AtomVec : Type 0
AtomVec = Vec AtomId Global

-- a vector says its list, whatever lists there are
abbrev pub SaysList : List (List AtomId) → AtomVec → List AtomId → Type 0
SaysList ls v xs = v.items ≡ xs

abbrev pub said_list : List (List AtomId) → AtomVec → List AtomId
said_list ls v = v.items
