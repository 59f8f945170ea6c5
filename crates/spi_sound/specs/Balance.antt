-- What a step does to a balanced account.
use Rattle.std.specs.Prelude.{◌≡◌, ℕ, ◌≤◌, true, List, [], ◌∷◌, ◌++◌, Option, Some, None}
use Rattle.spi_term.specs.Lists.{At, In}
use Rattle.spi_term.specs.Term.{Message, name, Effect, Ty, un, nonce, Process, split, select, branch, decrypt, check, begin, end, end_many, cast, fresh, par}
use Rattle.spi_term.specs.Names.{ProcessOver}
use Rattle.spi_rules.specs.Environment.{Env, untrusted}
use Rattle.spi_rules.specs.Messages.{Cast, cast_of}
use Rattle.spi_rules.specs.Processes.{HasEffect, proc_check, proc_sub}
use Rattle.spi_rules.specs.Derivations.{Derivable}
use Rattle.spi_run.specs.Reduction.{Configuration, Step, act, talk, Event, begun, ended, ended_many, Takes}
use Rattle.spi_run.specs.Opponent.{IsOpponent}
use Rattle.spi_run.specs.Safety.{beside}
use Rattle.spi_sound.specs.Account.{Account, PlacesHave, places_none, places_more, Balances, with_label, with_begun, with_name, with_cast, with_checked, first_account}

-- what the typing of a process releases at once: the effect of the Nonce type, where its rule is that of a check by a nonce
abbrev pub released : {casts : List Cast} {env : Env} {p : Process} {es : Effect} → HasEffect casts env p es
    → Option Effect
released (proc_check {fs = fs} h d n s r) = Some fs
released (proc_sub d w g) = released d
released _ = None

-- and that of each place
abbrev pub all_released : {casts : List Cast} {env : Env} {ps : List Process} {es : Effect}
    → PlacesHave casts env ps es → List (Option Effect)
all_released places_none = []
all_released (places_more d ds) = released d ∷ all_released ds

-- The account after a process has acted: a row for each form, with what its typing releases, and its event. Begin adds a
-- begun label, end takes one that is there, and new adds an unchecked name, of the type that is written. A cast adds
-- itself. A check by a nonce is of an unchecked name that was cast so: the name is unchecked no more, and of its casts this
-- one is released. All else leaves the account.
pub data Moves (a : Account) : Process → Option Effect → Option Event → Account → Type 0 where
  splits : {m : Message} {t u : Ty} {p : Process} {r : Option Effect} → Moves a (split m t u p) r None a
  matches : {m n : Message} {t u : Ty} {p : Process} {r : Option Effect} → Moves a (select m t n u p) r None a
  chooses : {m : Message} {t u : Ty} {p q : Process} {r : Option Effect} → Moves a (branch m t p u q) r None a
  decrypts : {m n : Message} {t : Ty} {p : Process} {r : Option Effect} → Moves a (decrypt m t n p) r None a
  compares : {m n : Message} {p : Process} → Moves a (check m n p) None None a
  releases : {x : ℕ} {p : Process} {fs : Effect}
      → a.unchecked x ≡ true → In (cast_of (name x) fs) a.casts
      → Moves a (check (name x) (name x) p) (Some fs) None (with_checked a x)
  begins : {m : Message} {p : Process} {r : Option Effect}
      → Moves a (begin m p) r (Some (begun m)) (with_label a m)
  takes : {m : Message} {p : Process} {r : Option Effect} (pre post : List Message)
      → a.begun ≡ pre ++ m ∷ post → Moves a (end m p) r (Some (ended m)) (with_begun a (pre ++ post))
  claims : {m : Message} {p : Process} {r : Option Effect}
      → In m a.ever → Moves a (end_many m p) r (Some (ended_many m)) a
  casts_as : {m : Message} {fs : Effect} {p : Process} {r : Option Effect}
      → Moves a (cast m (nonce fs) p) r None (with_cast a m fs)
  casts_un : {m : Message} {p : Process} {r : Option Effect} → Moves a (cast m un p) r None a
  makes : {t : Ty} {p : Process} {r : Option Effect} → Moves a (fresh t p) r None (with_name a t)
  forks : {p q : Process} {r : Option Effect} → Moves a (par p q) r None a

-- The account after a step, where rs is what the typings of the places release: a place that acts changes it as its process
-- does, and a talk leaves it.
pub data Changes (c : Configuration) (rs : List (Option Effect)) (a : Account) : Step → Option Event → Account
    → Type 0 where
  by_act : {i : ℕ} {p : Process} {r : Option Effect} {e : Option Event} {b : Account}
      → At c.places i p → At rs i r → Moves a p r e b → Changes c rs a (act i) e b
  by_talk : {i j : ℕ} → Changes c rs a (talk i j) None a

-- every name keeps its type, every cast stays, and a name that is made has the type that is written
pub record Grows (c : Configuration) (s : Step) (a b : Account) : Type 0 where
  pub types : (x : ℕ) (t : Ty) → At a.types x t → At b.types x t
  pub casts : (k : Cast) → In k a.casts → In k b.casts
  pub made : (i : ℕ) (t : Ty) (p : Process) → s ≡ act i → At c.places i (fresh t p) → At b.types c.names t

-- every step leads from a balanced account to a balanced account: the one that what acts makes of it, which only grows
abbrev pub StepsKeepBalance : Type 0
StepsKeepBalance = (c d : Configuration) (s : Step) (e : Option Event) (a : Account) (h : Balances c a)
    → Takes c s e d
    → (b : Account) × Balances d b × Changes c (all_released h.have) a s e b × Grows c s a b

-- and the account at the start balances
abbrev pub StartBalances : Type 0
StartBalances = (k n : ℕ) (p o : Process) → k ≤ n → Derivable (untrusted k) p []
    → IsOpponent o → ProcessOver n p → ProcessOver n o → Balances (beside n p o) (first_account n)
