-- Messages for several binders at once: the machine by which a type under binders is read without being opened.
use Rattle.std.specs.Prelude.{◌≡◌, ℕ, suc, ◌+◌, ◌-◌, ◌<◌, ◌^◌, min, nat_lt, if◌then◌else◌, List, map, length, Option, Some, None, slice_get}
use Rattle.spi_term.specs.Term.{Message, bound, name, Atom, ends, checks, many, Ty, un, unit_ty, pair_ty, sum_ty, key, nonce}
use Rattle.spi_term.specs.Substitution.{message_map, put, atom_map, effect_map, ty_map}
use Rattle.spi_intern.specs.declared.messages.MsgId.{MsgId}
use Rattle.spi_intern.specs.declared.types.TyId.{TyId}
use Rattle.spi_intern.specs.declared.atoms.AtomId.{AtomId}
use Rattle.spi_intern.specs.declared.atoms.AtomId.TheVariants.{End, Check, Many}
use Rattle.spi_intern.specs.declared.store.Store.{Store}
use Rattle.spi_intern.specs.Table.{TellsAll}
use Rattle.spi_intern.specs.Kinds as Kinds
use Rattle.spi_intern.specs.Kinds.{Kind}
use Rattle.spi_intern.specs.Atoms.{SaysAtom}
use Rattle.spi_intern.specs.Messages.{message_at}
use Rattle.spi_intern.specs.Meaning.{Means}

-- the element with k behind it
abbrev pub last_but : {A : Type 0} → ℕ → List A → Option A
last_but k xs = if nat_lt k (length xs) then slice_get xs (length xs - suc k) else None

-- the value for the index i under d inner binders, if it leads past these. The value of the innermost binder is the last
abbrev pub value_of : {A : Type 0} → List A → ℕ → ℕ → Option A
value_of vs d i = if nat_lt i d then None else last_but (i - d) vs

abbrev pub or_bound : ℕ → Option Message → Message
or_bound i None = bound i
or_bound i (Some m) = m

-- the values for the indices of a message that lead past d inner binders
abbrev pub fill : List Message → ℕ → Message → Message
fill vs d m = message_map (λ i. or_bound i (value_of vs d i)) name m

abbrev pub filled : List Message → Ty → Ty
filled vs t = ty_map (fill vs) 0 t

-- no value has a loose index
pub record AllStay (vs : List Message) : Type 0 where
  pub at : (i : ℕ) (v : Message) → slice_get vs i ≡ Some v → (n : Message) (d : ℕ) → put n d v ≡ v

-- the messages with these numbers
abbrev pub values_of : List Message → List MsgId → List Message
values_of ms ids = map (message_at ms) ids

-- the numbers are below n
pub record AreIdsBelow (ids : List MsgId) (n : ℕ) : Type 0 where
  pub at : (i : ℕ) (id : MsgId) → slice_get ids i ≡ Some id → id.place < n

abbrev pub atom_at : List Message → AtomId → Atom
atom_at ms (End m) = ends (message_at ms m)
atom_at ms (Check m) = checks (message_at ms m)
atom_at ms (Many m) = many (message_at ms m)

abbrev pub message_in : AtomId → MsgId
message_in (End m) = m
message_in (Check m) = m
message_in (Many m) = m

pub record AtomsAreBelow (ids : List AtomId) (n : ℕ) : Type 0 where
  pub at : (i : ℕ) (id : AtomId) → slice_get ids i ≡ Some id → (message_in id).place < n

-- how many binders a count stands for: it stands still at 2 ^ 32, past which no index leads
abbrev pub IsDepth : ℕ → ℕ → Type 0
IsDepth d depth = min d (2 ^ 32) ≡ depth

pub record FillsMessage (old new : List Message) (values : List MsgId) (depth : ℕ) (m r : MsgId) : Type 0
  where
    pub at : (d : ℕ) → IsDepth d depth
        → slice_get new r.place ≡ Some (fill (values_of old values) d (message_at old m))

pub record FillsAtom (old new : List Message) (values : List MsgId) (depth : ℕ) (a r : AtomId) : Type 0 where
  pub at : (d : ℕ) → IsDepth d depth
      → SaysAtom new r (atom_map (fill (values_of old values) d) (atom_at old a))

pub record FillsAtoms (old new : List Message) (values : List MsgId) (depth : ℕ) (xs rs : List AtomId) : Type
    0 where
  pub at : (d : ℕ) → IsDepth d depth
      → TellsAll (SaysAtom new) rs (effect_map (fill (values_of old values) d) (map (atom_at old) xs))

pub record FillsTy (old new : Store) (values : List MsgId) (depth : ℕ) (t r : TyId) : Type 0 where
  pub at : (d : ℕ) (u : Ty) → IsDepth d depth → Means old t.place u
      → Means new r.place (ty_map (fill (values_of old.messages values)) d u)

-- constructors of a type outside its effects
abbrev pub kind_size : Kind → ℕ
kind_size Kinds.un = 1
kind_size Kinds.unit = 1
kind_size (Kinds.pair t u) = suc (kind_size t + kind_size u)
kind_size (Kinds.sum t u) = suc (kind_size t + kind_size u)
kind_size (Kinds.key t) = suc (kind_size t)
kind_size (Kinds.nonce e) = 1

abbrev pub ty_size : Ty → ℕ
ty_size un = 1
ty_size unit_ty = 1
ty_size (pair_ty t u) = suc (ty_size t + ty_size u)
ty_size (sum_ty t u) = suc (ty_size t + ty_size u)
ty_size (key t) = suc (ty_size t)
ty_size (nonce es) = 1
