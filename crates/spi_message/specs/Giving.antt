-- What the calls of a judge give numbers to: whole messages and types, each with its parts.
use Rattle.std.specs.Prelude.{◌++◌, List, [], ◌∷◌, length}
use Rattle.spi_term.specs.Term.{Message, name, Atom, Effect, Ty, un, pair_ty, sum_ty, key, nonce}
use Rattle.spi_term.specs.Lists.{In}
use Rattle.spi_term.specs.Substitution.{ty_put}
use Rattle.spi_rules.specs.Environment.{Env}
use Rattle.spi_intern.specs.Parts.{PartOf, message_of}
use Rattle.spi_intern.specs.Meaning.{Keeps}
use Rattle.spi_intern.specs.Growing.{Has, Given, a_message, a_type, Adds, Gave, GaveAtLeast}
use Rattle.spi_intern.specs.declared.store.Store.{Store}

-- the message and each of its parts have numbers
pub record HasParts (ms : List Message) (m : Message) : Type 0 where
  pub each : (x : Message) → PartOf x m → Has ms x

-- the store grew from s as each of these terms, the last first, was given a number
pub data GrowsBy (s : Store) : List Given → Store → Type 0 where
  grows_none : GrowsBy s [] s
  grows_next : {gs : List Given} {g : Given} {q r : Store} → GrowsBy s gs q → Keeps q r → Adds q r g
      → GrowsBy s (g ∷ gs) r

-- the store grew from s to r as terms with P were given numbers, and no others
pub record GivesOnly (P : Given → Type 0) (s r : Store) : Type 0 where
  pub given : List Given
  pub each : (g : Given) → In g given → P g
  pub grows : GrowsBy s given r

-- v is the type, or stands in it as the type of a part: the binder of a pair stands for a part of the message
pub data Opening (n : Message) (v : Ty) : Ty → Type 0 where
  itself : Opening n v v
  of_first : {t u : Ty} → Opening n v t → Opening n v (pair_ty t u)
  of_second : {m : Message} {t u : Ty} → PartOf m n → Opening n v (ty_put m u) → Opening n v (pair_ty t u)
  of_left : {t u : Ty} → Opening n v t → Opening n v (sum_ty t u)
  of_right : {t u : Ty} → Opening n v u → Opening n v (sum_ty t u)

-- What typing a message at a type gives numbers to: the types that a name of the message is compared with. They are
-- Un, the type and what stands in it, and the same of T, where the environment has a name of type Key(T).
pub data Compared (e : Env) (n : Message) (u : Ty) : Given → Type 0 where
  with_un : Compared e n u (a_type un)
  with_type : {v : Ty} → Opening n v u → Compared e n u (a_type v)
  with_payload : {t v : Ty} → In (key t) e → Opening n v t → Compared e n u (a_type v)

-- What asking whether the message of an atom is a label, or has type Un, gives numbers to: the message, and what typing it
-- at Un gives numbers to.
pub data Tested (e : Env) (n : Message) : Given → Type 0 where
  the_message : Tested e n (a_message n)
  its_typing : {g : Given} → Compared e n un g → Tested e n g

-- What asking whether a type is good gives numbers to: for each pair the name that its binder is opened with and the type
-- of that name, and what testing the atoms of each Nonce gives numbers to.
pub data Examined : Env → Ty → Given → Type 0 where
  the_name : {e : Env} {t u : Ty} → Examined e (pair_ty t u) (a_message (name (length e)))
  its_type : {e : Env} {t u : Ty} → Examined e (pair_ty t u) (a_type t)
  in_first : {e : Env} {t u : Ty} {g : Given} → Examined e t g → Examined e (pair_ty t u) g
  in_second : {e : Env} {t u : Ty} {g : Given} → Examined (e ++ t ∷ []) (ty_put (name (length e)) u) g
      → Examined e (pair_ty t u) g
  in_left : {e : Env} {t u : Ty} {g : Given} → Examined e t g → Examined e (sum_ty t u) g
  in_right : {e : Env} {t u : Ty} {g : Given} → Examined e u g → Examined e (sum_ty t u) g
  in_payload : {e : Env} {t : Ty} {g : Given} → Examined e t g → Examined e (key t) g
  of_atom : {e : Env} {a : Atom} {es : Effect} {g : Given} → In a es → Tested e (message_of a) g
      → Examined e (nonce es) g

-- a whole term, and no constructor over numbers alone
pub data IsWholeGiven : Given → Type 0 where
  whole_message : {m : Message} → IsWholeGiven (a_message m)
  whole_type : {t : Ty} → IsWholeGiven (a_type t)

pub record AreWhole (gs : List Given) : Type 0 where
  pub each : (g : Given) → In g gs → IsWholeGiven g

-- a judge's store, where each call answered Ok: the whole terms that calls gave numbers to, the last first
pub record HasGiven (gs : List Given) (s : Store) : Type 0 where
  pub gave : Gave gs s
  pub whole : AreWhole gs

-- the same, where other calls answered NoMemory
pub record HasGivenAtLeast (gs : List Given) (s : Store) : Type 0 where
  pub gave : GaveAtLeast gs s
  pub whole : AreWhole gs
