-- The slots in which the parts of a bench stand. A slot that is empty had a part that was dropped.
use Rattle.std.specs.Prelude.{◌≡◌, ◌⊎◌, ◌↔◌, ℕ, ◌+◌, ◌<◌, ◌≤◌, Bool, true, List, [], ◌∷◌, ◌++◌, map, length, Option, Some, None, slice_get, slice_set}
use Rattle.spi_term.specs.Names.{ProcessOver}
use Rattle.spi_term.specs.Spelling.{Spelling}
use Rattle.spi_term.specs.Term.{Ty}
use Rattle.spi_term.specs.declared.term.Effect as Declared
use Rattle.spi_rules.specs.Environment.{Env, untrusted}
use Rattle.spi_infer.specs.Inferring.{IsLeast}
use Rattle.spi_message.specs.Judging.{Numbered, Stands}
use Rattle.spi_bench.specs.Parts.{Part, part_named, with_part, without}
use Rattle.spi_bench.specs.Sums.{blocked, placed, total}
use Rattle.spi_bench.specs.Whole.{AreOver, AreShared}
use Rattle.spi_bench.specs.declared.slot.Slot.{Slot}

-- the parts that are there, in order
abbrev pub part_of : Slot → Part
part_of s = record { name = s.name; part = s.part }

abbrev pub kept : List (Option Slot) → List Slot
kept [] = []
kept (None ∷ ss) = kept ss
kept (Some s ∷ ss) = s ∷ kept ss

abbrev pub slot_parts : List (Option Slot) → List Part
slot_parts ss = map part_of (kept ss)

-- a slot with this name stands there
abbrev pub SlotStandsAt : List (Option Slot) → ℕ → List ℕ → Type 0
SlotStandsAt ss i n = (s : Slot) × (slice_get ss i ≡ Some (Some s)) × (s.name ≡ n)

-- each name is found exactly where its slot stands
abbrev pub AreNamed : List (Option Slot) → (List ℕ → Option ℕ) → Type 0
AreNamed ss at = (n : List ℕ) (i : ℕ) → (at n ≡ Some i) ↔ SlotStandsAt ss i n

-- the part is over so many names, and this is its least effect
pub record IsPartOver (env : Env) (count : ℕ) (p : Spelling) (o : Option Declared.Effect) : Type 0 where
  pub names : p.names ≡ count
  pub over : ProcessOver count p.process
  pub least : IsLeast env p.process o

abbrev pub IsInferred : Env → ℕ → Slot → Type 0
IsInferred env count s = IsPartOver env count s.part s.least

abbrev pub AreInferred : Env → ℕ → List (Option Slot) → Type 0
AreInferred env count ss = (i : ℕ) (s : Slot) → slice_get ss i ≡ Some (Some s) → IsInferred env count s

-- at most one empty slot is new
abbrev pub IsPadded : List (Option Slot) → List (Option Slot) → Type 0
IsPadded old new = (new ≡ old) ⊎ (new ≡ old ++ None ∷ [])

-- the types of the free and the shared names
abbrev pub slot_names : ℕ → List Ty → Env
slot_names k ts = untrusted k ++ ts

-- each part has an effect, and their atoms are at most one `check x` for each shared name x, where k names are free and n shared
pub record HaveNoneTwice (k n : ℕ) (ss : List (Option Slot)) : Type 0 where
  pub effects : total k n blocked ss ≡ 0
  pub others : total k n (placed None) ss ≡ 0
  pub once : (i : ℕ) → i < n → total k n (placed (Some i)) ss ≤ 1

-- the slot with this number holds the part, under the name that was there, and its part before is given back
pub data SetsPart (i : ℕ) (p : Spelling) (least : Option Declared.Effect) : Option Spelling
    → List (Option Slot) → List (Option Slot) → Type 0 where
  sets_part : {s t : Slot} {old new : List (Option Slot)} → slice_get old i ≡ Some (Some s) → t.name ≡ s.name
      → t.part ≡ p → t.least ≡ least
      → new ≡ slice_set old i (Some t) → SetsPart i p least (Some s.part) old new
  sets_none : {old new : List (Option Slot)} → slice_get old i ≡ Some None → SetsPart i p least None old new

-- a put: the parts, the part that was there, the places of the names, and what is inferred
pub record PutsPart (n : List ℕ) (p : Spelling) (least : Option Declared.Effect) (r : Option Spelling)
    (old new : List (Option Slot)) (to : List ℕ → Option ℕ) : Type 0 where
  pub places : AreNamed new to
  pub parts : slot_parts new ≡ with_part n p (slot_parts old)
  pub before : r ≡ part_named n (slot_parts old)
  pub inferred : (env : Env) (count : ℕ) → AreInferred env count old → IsPartOver env count p least
      → AreInferred env count new

-- a drop
pub record Drops (n : List ℕ) (r : Option Spelling) (old new : List (Option Slot))
    (to : List ℕ → Option ℕ) : Type 0 where
  pub places : AreNamed new to
  pub parts : slot_parts new ≡ without n (slot_parts old)
  pub before : r ≡ part_named n (slot_parts old)
  pub inferred : (env : Env) (count : ℕ) → AreInferred env count old → AreInferred env count new

-- no change
pub record Stays (old new : List (Option Slot)) (to : List ℕ → Option ℕ) : Type 0 where
  pub places : AreNamed new to
  pub parts : slot_parts new ≡ slot_parts old
  pub inferred : (env : Env) (count : ℕ) → AreInferred env count old → AreInferred env count new

-- what holds of a bench: its judge stands for the types of the names, `fine` says whether the shared types are in order,
-- the counts are over the same names, each name is found where its slot stands, and each slot has its least effect
pub record IsJudgedBench (j : Numbered) (free : ℕ) (ts : List Ty) (fine : Bool) (k n : ℕ)
    (ss : List (Option Slot))
    (at : List ℕ → Option ℕ) : Type 0 where
  pub stands : Stands j (slot_names free ts)
  pub shared : (fine ≡ true) ↔ AreShared (untrusted free) ts
  pub over : AreOver free ts
  pub free_is : k ≡ free
  pub shared_is : n ≡ length ts
  pub places : AreNamed ss at
  pub inferred : AreInferred (slot_names free ts) (free + length ts) ss
