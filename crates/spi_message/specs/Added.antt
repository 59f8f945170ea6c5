-- What the machine that fills binders adds to a store.
use Rattle.std.specs.Prelude.{◌≡◌, ℕ, List, map, Some, slice_get}
use Rattle.spi_term.specs.Term.{Message, Ty, un, nonce}
use Rattle.spi_term.specs.Substitution.{effect_map, ty_map}
use Rattle.spi_rules.specs.Environment.{Env}
use Rattle.spi_intern.specs.Messages.{message_at}
use Rattle.spi_intern.specs.Meaning.{Means}
use Rattle.spi_intern.specs.Parts.{InEffect}
use Rattle.spi_intern.specs.Growing.{AddsMessages, AddsTypes, Adds, a_message, a_type}
use Rattle.spi_intern.specs.declared.messages.MsgId.{MsgId}
use Rattle.spi_intern.specs.declared.types.TyId.{TyId}
use Rattle.spi_intern.specs.declared.atoms.AtomId.{AtomId}
use Rattle.spi_intern.specs.declared.store.Store.{Store}
use Rattle.spi_message.specs.declared.answers.Asked.{Asked}
use Rattle.spi_message.specs.declared.answers.Asked.TheVariants.{Typed, Labelled, Good}
use Rattle.spi_message.specs.Judging.{StandFor}
use Rattle.spi_message.specs.Filling.{values_of, atom_at, message_in, fill, filled, AllStay, IsDepth}
use Rattle.spi_message.specs.Giving.{HasParts, GivesOnly, Compared, Tested, Examined}

-- the values and their parts have numbers
pub record AllHaveParts (ms vs : List Message) : Type 0 where
  pub at : (i : ℕ) (v : Message) → slice_get vs i ≡ Some v → HasParts ms v

-- the filled message, where the values and their parts have numbers
pub record MessageIsAdded (old new : Store) (values : List MsgId) (depth : ℕ) (m : MsgId) : Type 0 where
  pub at : (d : ℕ) → IsDepth d depth → AllHaveParts old.messages (values_of old.messages values)
      → Adds old new (a_message (fill (values_of old.messages values) d (message_at old.messages m)))

-- the messages of the filled atoms
pub record AtomsAreAdded (old new : Store) (values : List MsgId) (depth : ℕ) (ids : List AtomId) : Type 0
  where
    pub messages : (d : ℕ) → IsDepth d depth → AllHaveParts old.messages (values_of old.messages values)
        → AddsMessages old.messages new.messages
        (λ x. InEffect x
        (effect_map (fill (values_of old.messages values) d) (map (atom_at old.messages) ids)))
    pub types : (d : ℕ) → IsDepth d depth → AllHaveParts old.messages (values_of old.messages values)
        → AddsTypes old new (λ u. ⊥)

-- the filled type
pub record TypeIsAdded (old new : Store) (values : List MsgId) (depth : ℕ) (t : TyId) : Type 0 where
  pub at : (d : ℕ) (u : Ty) → IsDepth d depth → Means old t.place u
      → AllHaveParts old.messages (values_of old.messages values)
      → Adds old new (a_type (ty_map (fill (values_of old.messages values)) d u))

-- what typing a message gives numbers to, where the values and the message have their parts
pub record TypingGives (old new : Store) (env : List TyId) (n : Message) (t : TyId) (vs : List MsgId) : Type 0
  where
    pub at : (e : Env) (u : Ty) → StandFor old env e → Means old t.place u
        → AllStay (values_of old.messages vs)
        → AllHaveParts old.messages (values_of old.messages vs) → HasParts old.messages n
        → GivesOnly (Compared e n (filled (values_of old.messages vs) u)) old new

-- what asking for a label gives numbers to
pub record LabelGives (old new : Store) (env : List TyId) (n : Message) : Type 0 where
  pub at : (e : Env) → StandFor old env e → HasParts old.messages n → GivesOnly (Compared e n un) old new

-- what testing the message of an atom gives numbers to
pub record AtomGives (old new : Store) (env : List TyId) (a : AtomId) (vs : List MsgId) : Type 0 where
  pub at : (e : Env) → StandFor old env e → AllHaveParts old.messages (values_of old.messages vs)
      → GivesOnly (Tested e (fill (values_of old.messages vs) 0 (message_at old.messages (message_in a)))) old
      new

-- what testing atoms gives numbers to
pub record AtomsGive (old new : Store) (env : List TyId) (ids : List AtomId) (vs : List MsgId) : Type 0 where
  pub at : (e : Env) → StandFor old env e → AllHaveParts old.messages (values_of old.messages vs)
      → GivesOnly (Examined e
      (nonce (effect_map (fill (values_of old.messages vs) 0) (map (atom_at old.messages) ids)))) old new

-- what asking whether a type is good gives numbers to
pub record GoodGives (old new : Store) (env : List TyId) (t : TyId) (vs : List MsgId) : Type 0 where
  pub at : (e : Env) (u : Ty) → StandFor old env e → Means old t.place u → AllStay (values_of old.messages vs)
      → AllHaveParts old.messages (values_of old.messages vs)
      → GivesOnly (Examined e (filled (values_of old.messages vs) u)) old new

-- what a question gives numbers to
abbrev pub AnswerGives : Store → Store → List TyId → Asked → Type 0
AnswerGives s r ids (Typed m t) = (env : Env) (n : Message) (u : Ty) → StandFor s ids env
    → slice_get s.messages m.place ≡ Some n → Means s t.place u → HasParts s.messages n
    → GivesOnly (Compared env n u) s r
AnswerGives s r ids (Labelled m) = (env : Env) (n : Message) → StandFor s ids env
    → slice_get s.messages m.place ≡ Some n → HasParts s.messages n → GivesOnly (Compared env n un) s r
AnswerGives s r ids (Good t) = (env : Env) (u : Ty) → StandFor s ids env → Means s t.place u
    → GivesOnly (Examined env u) s r
