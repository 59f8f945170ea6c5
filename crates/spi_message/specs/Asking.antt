-- Questions over shared terms: what is asked for, and what is answered of each environment that the numbers stand for.
use Rattle.std.specs.Prelude.{◌≡◌, ◌+◌, ◌<◌, ◌^◌, Bool, List, map, length, Some, None}
use Rattle.spi_term.specs.Term.{Message, Ty, un, sum_ty, key}
use Rattle.spi_term.specs.Substitution.{atom_map, effect_map}
use Rattle.spi_rules.specs.Environment.{Env}
use Rattle.spi_intern.specs.declared.messages.MsgId.{MsgId}
use Rattle.spi_intern.specs.declared.types.TyId.{TyId}
use Rattle.spi_intern.specs.declared.atoms.AtomId.{AtomId}
use Rattle.spi_intern.specs.declared.store.Store.{Store}
use Rattle.spi_intern.specs.Given.{IsGiven}
use Rattle.spi_intern.specs.Typed.{kind_at}
use Rattle.spi_intern.specs.Meaning.{Means}
use Rattle.spi_message.specs.Judging.{StandFor}
use Rattle.spi_message.specs.Filling.{AllStay, AreIdsBelow, AtomsAreBelow, values_of, atom_at, fill, filled, kind_size}
use Rattle.spi_message.specs.Tests.{typed, labelled, good_atom, good_effect, good, key_in, type_of_key}

-- the numbers stand for some environment
pub record IsEnvironment (s : Store) (ids : List TyId) : Type 0 where
  pub env : Env
  pub stands : StandFor s ids env

-- a type, in an environment, with values for the binders that it stands under
pub record IsAsked (s : Store) (env : List TyId) (t : TyId) (vs : List MsgId) : Type 0 where
  pub names : IsEnvironment s env
  pub given : IsGiven s t.place
  pub values : AreIdsBelow vs (length s.messages)

-- the message has the type
pub record IsTyped (s : Store) (env : List TyId) (n : Message) (t : TyId) (vs : List MsgId) (b : Bool) : Type
    0 where
  pub at : (e : Env) (u : Ty) → StandFor s env e → Means s t.place u → AllStay (values_of s.messages vs)
      → b ≡ typed n e (filled (values_of s.messages vs) u)

-- the message is a label
pub record IsLabelled (s : Store) (env : List TyId) (n : Message) (b : Bool) : Type 0 where
  pub at : (e : Env) → StandFor s env e → b ≡ labelled n e

-- the types that the two sides of a sum are asked for, where it is asked for a type: those of a sum type, and Un for Un
pub data AreSides : Ty → Ty → Ty → Type 0 where
  sides_of_un : AreSides un un un
  sides_of_sum : {v w : Ty} → AreSides (sum_ty v w) v w

-- their numbers
pub record AreSidesOf (s : Store) (t left right : TyId) : Type 0 where
  pub at : (u : Ty) → Means s t.place u
      → (v w : Ty) × AreSides u v w × Means s left.place v × Means s right.place w

pub record HasNoSides (s : Store) (t : TyId) : Type 0 where
  pub none : (u v w : Ty) → Means s t.place u → AreSides u v w → ⊥

-- the number of T, where the type is Key(T)
pub record IsKeyFor (s : Store) (t p : TyId) : Type 0 where
  pub at : (u : Ty) → Means s t.place u → (v : Ty) × (u ≡ key v) × Means s p.place v

pub record IsNoKey (s : Store) (t : TyId) : Type 0 where
  pub at : (u : Ty) → Means s t.place u → key_in (Some u) ≡ None

-- the number of T, where the message is a name of type Key(T)
pub record IsPayload (s : Store) (env : List TyId) (n : Message) (p : TyId) : Type 0 where
  pub at : (e : Env) → StandFor s env e → (t : Ty) × (type_of_key e n ≡ Some t) × Means s p.place t

pub record IsNoPayload (s : Store) (env : List TyId) (n : Message) : Type 0 where
  pub at : (e : Env) → StandFor s env e → type_of_key e n ≡ None

-- an atom of a Nonce type is good
pub record IsGoodAtom (s : Store) (env : List TyId) (a : AtomId) (vs : List MsgId) (b : Bool) : Type 0 where
  pub at : (e : Env) → StandFor s env e
      → b ≡ good_atom (atom_map (fill (values_of s.messages vs) 0) (atom_at s.messages a)) e

-- atoms of a Nonce type
pub record IsAskedAtoms (s : Store) (env : List TyId) (ids : List AtomId) (vs : List MsgId) : Type 0 where
  pub names : IsEnvironment s env
  pub atoms : AtomsAreBelow ids (length s.messages)
  pub values : AreIdsBelow vs (length s.messages)

pub record AreGood (s : Store) (env : List TyId) (ids : List AtomId) (vs : List MsgId) (b : Bool) : Type 0
  where
    pub at : (e : Env) → StandFor s env e
        → b ≡ good_effect (effect_map (fill (values_of s.messages vs) 0) (map (atom_at s.messages) ids)) e

-- a type of which each binder takes one more name
pub record IsAskedGood (s : Store) (env : List TyId) (t : TyId) (vs : List MsgId) : Type 0 where
  pub names : IsEnvironment s env
  pub given : IsGiven s t.place
  pub values : AreIdsBelow vs (length s.messages)
  pub few : length env + kind_size (kind_at s.types t) < 2 ^ 32

pub record IsGood (s : Store) (env : List TyId) (t : TyId) (vs : List MsgId) (b : Bool) : Type 0 where
  pub at : (e : Env) (u : Ty) → StandFor s env e → Means s t.place u → AllStay (values_of s.messages vs)
      → b ≡ good e (filled (values_of s.messages vs) u)
