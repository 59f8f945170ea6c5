-- Which messages and types a call adds, and what a store has after a run of calls.
use Rattle.std.specs.Prelude.{◌≡◌, ◌↔◌, ℕ, ◌<◌, List, [], ◌∷◌, Some, slice_get, length, ◌⊎◌}
use Rattle.spi_term.specs.Term.{Message, Ty}
use Rattle.spi_term.specs.Lists.{In}
use Rattle.spi_term.specs.SameTy.{SameTy}
use Rattle.spi_intern.specs.Parts.{PartOf, InTy, TyPartOf}
use Rattle.spi_intern.specs.Meaning.{Means, Keeps}
use Rattle.spi_intern.specs.declared.store.Store.{Store}

-- x has a number
pub record Has (ms : List Message) (x : Message) : Type 0 where
  pub place : ℕ
  pub at : slice_get ms place ≡ Some x

pub record HasTy (s : Store) (u : Ty) : Type 0 where
  pub place : ℕ
  pub means : Means s place u

-- each message with M has a number, and each new number is that of such a message
pub record AddsMessages (old new : List Message) (M : Message → Type 0) : Type 0 where
  pub all : (x : Message) → M x → Has new x
  pub only : (x : Message) → Has new x → Has old x ⊎ M x

-- the same for types with T
pub record AddsTypes (old new : Store) (T : Ty → Type 0) : Type 0 where
  pub all : (u : Ty) → T u → HasTy new u
  pub only : (i : ℕ) → i < length new.types → (i < length old.types) ⊎ ((u : Ty) × T u × Means new i u)

-- what a call was given: a term, or only the outermost constructor of a term whose parts have numbers
pub data Given : Type 0 where
  a_message : Message → Given
  a_type : Ty → Given
  over_messages : Message → Given
  over_types : Ty → Given

abbrev pub MessageIn : Given → Message → Type 0
MessageIn (a_message m) x = PartOf x m
MessageIn (a_type t) x = InTy x t
MessageIn (over_messages m) x = x ≡ m
MessageIn (over_types t) x = ⊥

abbrev pub TypeIn : Given → Ty → Type 0
TypeIn (a_message m) u = ⊥
TypeIn (a_type t) u = TyPartOf u t
TypeIn (over_messages m) u = ⊥
TypeIn (over_types t) u = u ≡ t

pub record Adds (old new : Store) (g : Given) : Type 0 where
  pub messages : AddsMessages old.messages new.messages (MessageIn g)
  pub types : AddsTypes old new (TypeIn g)

-- a store that has given a number for each of these terms, the last first
pub data Gave : List Given → Store → Type 0 where
  gave_none : {s : Store} → s.messages ≡ [] → s.types ≡ [] → Gave [] s
  gave_next : {gs : List Given} {g : Given} {s r : Store} → Gave gs s → Keeps s r → Adds s r g
      → Gave (g ∷ gs) r

-- a store that has given a number for each of these terms, the last first, where other calls answered NoMemory
pub data GaveAtLeast : List Given → Store → Type 0 where
  gave_nothing : {s : Store} → GaveAtLeast [] s
  gave_also : {gs : List Given} {g : Given} {s r : Store} → GaveAtLeast gs s → Keeps s r → Adds s r g
      → GaveAtLeast (g ∷ gs) r
  gave_up : {gs : List Given} {s r : Store} → GaveAtLeast gs s → Keeps s r → GaveAtLeast gs r

-- these and their parts
pub record MessageAmong (gs : List Given) (x : Message) : Type 0 where
  pub given : Given
  pub stands : In given gs
  pub part : MessageIn given x

pub record TypeAmong (gs : List Given) (u : Ty) : Type 0 where
  pub given : Given
  pub stands : In given gs
  pub part : TypeIn given u

-- the numbers below n count what has P, where what is Same counts as one: each number is that of such a thing, each such thing has a number, and two numbers are equal just where the things are the same
pub record NumbersCount {A : Type 0} (n : ℕ) (IsAt : ℕ → A → Type 0) (P : A → Type 0)
    (Same : A → A → Type 0) : Type
    0 where
  pub each : (i : ℕ) → i < n → (a : A) × P a × IsAt i a
  pub all : (a : A) → P a → (i : ℕ) × (i < n) × IsAt i a
  pub apart : (i j : ℕ) (a b : A) → IsAt i a → IsAt j b → (i ≡ j) ↔ Same a b

-- the store's messages and types are those among the given terms and their parts
pub record CountsParts (gs : List Given) (s : Store) : Type 0 where
  pub messages : NumbersCount (length s.messages) (λ i x. slice_get s.messages i ≡ Some x) (MessageAmong gs)
      (λ x y. x ≡ y)
  pub types : NumbersCount (length s.types) (Means s) (TypeAmong gs) SameTy

-- numbers below n for all that has P, where what is Same has one: each such thing has a number, and two numbers are equal just
-- where the things are the same
pub record CountsAtLeast {A : Type 0} (n : ℕ) (IsAt : ℕ → A → Type 0) (P : A → Type 0)
    (Same : A → A → Type 0) : Type 0 where
  pub all : (a : A) → P a → (i : ℕ) × (i < n) × IsAt i a
  pub apart : (i j : ℕ) (a b : A) → IsAt i a → IsAt j b → (i ≡ j) ↔ Same a b

-- the store's messages and types are at least those among the given terms and their parts
pub record CountsPartsAtLeast (gs : List Given) (s : Store) : Type 0 where
  pub messages : CountsAtLeast (length s.messages) (λ i x. slice_get s.messages i ≡ Some x) (MessageAmong gs)
      (λ x y. x ≡ y)
  pub types : CountsAtLeast (length s.types) (Means s) (TypeAmong gs) SameTy
