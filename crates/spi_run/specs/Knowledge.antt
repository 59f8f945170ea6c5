-- What an intruder learns from a run.
use Rattle.std.specs.Prelude.{zero, slice_get, ℕ, suc, ◌≤◌, List, [], ◌∷◌, ◌++◌, Option, Some, None}
use Rattle.spi_run.specs.Opponent.{IsOpponent}
use Rattle.spi_run.specs.Reduction.{Configuration, Step, act, talk, Event, Runs, runs_none, runs_silent, runs_event}
use Rattle.spi_run.specs.Safety.{beside}
use Rattle.spi_term.specs.Lists.{In}
use Rattle.spi_term.specs.Names.{ProcessOver}
use Rattle.spi_term.specs.Term.{Message, name, unit, hash, pair, in_left, in_right, enc, Ty, un, unit_ty, pair_ty, sum_ty, key, nonce, Process, leaf, prefix, fork, send, stop, Prefix, Recvs, Serves, Splits, Selects, Decrypts, Checks, Begins, Ends, EndManys, Casts, Freshes}

-- the type at which a form makes a name, where it makes one
abbrev pub fresh_ty : Prefix → Option Ty
fresh_ty (Recvs m t) = None
fresh_ty (Serves m t) = None
fresh_ty (Splits m t u) = None
fresh_ty (Selects m t n u) = None
fresh_ty (Decrypts m t n) = None
fresh_ty (Checks m n) = None
fresh_ty (Begins m) = None
fresh_ty (Ends m) = None
fresh_ty (EndManys m) = None
fresh_ty (Casts m t) = None
fresh_ty (Freshes t) = Some t

-- the same of the process that stands in a place
abbrev pub made_ty : Option Process → Option Ty
made_ty None = None
made_ty (Some (leaf l)) = None
made_ty (Some (prefix f p)) = fresh_ty f
made_ty (Some (fork f p q)) = None

-- the name, where it is made at Un
abbrev pub made_un : Option Ty → ℕ → List Message
made_un None n = []
made_un (Some un) n = name n ∷ []
made_un (Some unit_ty) n = []
made_un (Some (pair_ty t u)) n = []
made_un (Some (sum_ty t u)) n = []
made_un (Some (key t)) n = []
made_un (Some (nonce es)) n = []

-- the name, where it is made at a Key type
abbrev pub made_key : Option Ty → ℕ → List ℕ
made_key None n = []
made_key (Some un) n = []
made_key (Some unit_ty) n = []
made_key (Some (pair_ty t u)) n = []
made_key (Some (sum_ty t u)) n = []
made_key (Some (key t)) n = n ∷ []
made_key (Some (nonce es)) n = []

-- what an output in a place hands over
abbrev pub datum : Option Process → List Message
datum None = []
datum (Some (send m d)) = d ∷ []
datum (Some stop) = []
datum (Some (prefix f p)) = []
datum (Some (fork f p q)) = []

-- what a step shows: a name made at Un, or the datum of a talk
abbrev pub shown : Configuration → Step → List Message
shown c (act i) = made_un (made_ty (slice_get c.places i)) c.names
shown c (talk i j) = datum (slice_get c.places i)

-- the name that a step makes at a Key type
abbrev pub keyed : Configuration → Step → List ℕ
keyed c (act i) = made_key (made_ty (slice_get c.places i)) c.names
keyed c (talk i j) = []

-- the same along a run
abbrev pub shown_in : {c d : Configuration} {ss : List Step} {es : List Event} → Runs c ss es d → List Message
shown_in runs_none = []
shown_in (runs_silent {c} {s = s} t r) = shown c s ++ shown_in r
shown_in (runs_event {c} {s = s} t r) = shown c s ++ shown_in r

abbrev pub keys_in : {c d : Configuration} {ss : List Step} {es : List Event} → Runs c ss es d → List ℕ
keys_in runs_none = []
keys_in (runs_silent {c} {s = s} t r) = keyed c s ++ keys_in r
keys_in (runs_event {c} {s = s} t r) = keyed c s ++ keys_in r

-- what an intruder knows who has the messages sent
pub data Knows (sent : List Message) : Message → Type 0 where
  knows_sent : {m : Message} → In m sent → Knows sent m
  knows_unit : Knows sent unit
  knows_pair : {m n : Message} → Knows sent m → Knows sent n → Knows sent (pair m n)
  knows_first : {m n : Message} → Knows sent (pair m n) → Knows sent m
  knows_second : {m n : Message} → Knows sent (pair m n) → Knows sent n
  knows_inl : {m : Message} → Knows sent m → Knows sent (in_left m)
  knows_inr : {m : Message} → Knows sent m → Knows sent (in_right m)
  knows_from_inl : {m : Message} → Knows sent (in_left m) → Knows sent m
  knows_from_inr : {m : Message} → Knows sent (in_right m) → Knows sent m
  knows_enc : {m n : Message} → Knows sent m → Knows sent n → Knows sent (enc m n)
  knows_opened : {m n : Message} → Knows sent (enc m n) → Knows sent n → Knows sent m
  knows_hash : {m : Message} → Knows sent m → Knows sent (hash m)

-- the names below n
abbrev pub names_below : ℕ → List Message
names_below zero = []
names_below (suc n) = name n ∷ names_below n

-- beside every opponent, along every run, no name made at a Key type is known from the names at the start and what was shown
abbrev pub KeysStaySecret : ℕ → Process → Type 0
KeysStaySecret k p = (o : Process) (n : ℕ) (steps : List Step) (events : List Event) (c : Configuration)
    → IsOpponent o → k ≤ n → ProcessOver n p → ProcessOver n o → (r : Runs (beside n p o) steps events c)
    → (x : ℕ) → In x (keys_in r) → Knows (names_below n ++ shown_in r) (name x) → ⊥
