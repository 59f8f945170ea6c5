-- Configurations, steps and runs.
use Rattle.std.specs.Prelude.{◌≡◌, ℕ, suc, List, [], ◌∷◌, ◌++◌, Option, Some, None, slice_set}
use Rattle.spi_term.specs.Lists.{At}
use Rattle.spi_term.specs.Substitution.{process_put, process_put_two}
use Rattle.spi_term.specs.Term.{Message, name, pair, in_left, in_right, enc, Ty, Process, send, recv, serve, split, select, branch, decrypt, check, begin, end, end_many, cast, fresh, par, stop}

-- the number of names used so far, and a process at each place
pub record Configuration : Type 0 where
  pub names : ℕ
  pub places : List Process

pub data Step : Type 0 where
  act : (place : ℕ) → Step
  talk : (out : ℕ) (inp : ℕ) → Step

pub data Event : Type 0 where
  begun : (label : Message) → Event
  ended : (label : Message) → Event
  ended_many : (label : Message) → Event

-- one place acts alone, where n names are used: its event, the names used then, what the place holds then, and what is appended
pub data Acts (n : ℕ) : Process → Option Event → ℕ → Process → List Process → Type 0 where
  acts_split : {a b : Message} {t u : Ty} {p : Process}
      → Acts n (split (pair a b) t u p) None n (process_put_two a b p) []
  acts_select : {a b c : Message} {t u : Ty} {p : Process}
      → a ≡ c → Acts n (select (pair a b) t c u p) None n (process_put b p) []
  acts_inl : {a : Message} {t u : Ty} {p q : Process}
      → Acts n (branch (in_left a) t p u q) None n (process_put a p) []
  acts_inr : {a : Message} {t u : Ty} {p q : Process}
      → Acts n (branch (in_right a) t p u q) None n (process_put a q) []
  acts_decrypt : {a k j : Message} {t : Ty} {p : Process}
      → k ≡ j → Acts n (decrypt (enc a k) t j p) None n (process_put a p) []
  acts_check : {a b : Message} {p : Process} → a ≡ b → Acts n (check a b p) None n p []
  acts_begin : {a : Message} {p : Process} → Acts n (begin a p) (Some (begun a)) n p []
  acts_end : {a : Message} {p : Process} → Acts n (end a p) (Some (ended a)) n p []
  acts_end_many : {a : Message} {p : Process} → Acts n (end_many a p) (Some (ended_many a)) n p []
  acts_cast : {a : Message} {t : Ty} {p : Process} → Acts n (cast a t p) None n (process_put a p) []
  acts_fresh : {t : Ty} {p : Process} → Acts n (fresh t p) None (suc n) (process_put (name n) p) []
  acts_par : {p q : Process} → Acts n (par p q) None n p (q ∷ [])

-- an output and an input: what the input's place holds then, and what is appended
pub data Talks : Process → Process → Process → List Process → Type 0 where
  talks_once : {a b c : Message} {t : Ty} {p : Process} → a ≡ c
      → Talks (send a b) (recv c t p) (process_put b p) []
  talks_again : {a b c : Message} {t : Ty} {p : Process}
      → a ≡ c → Talks (send a b) (serve c t p) (serve c t p) (process_put b p ∷ [])

-- one step, with its event
pub data Takes : Configuration → Step → Option Event → Configuration → Type 0 where
  takes_act : {n n' i : ℕ} {ps more : List Process} {p p' : Process} {e : Option Event}
      → At ps i p → Acts n p e n' p' more
      → Takes (record { names = n; places = ps }) (act i) e
      (record { names = n'; places = slice_set ps i p' ++ more })
  takes_talk : {n i j : ℕ} {ps more : List Process} {p q q' : Process}
      → At ps i p → At ps j q → Talks p q q' more
      → Takes (record { names = n; places = ps }) (talk i j) None
      (record { names = n; places = slice_set (slice_set ps i stop) j q' ++ more })

-- a list of steps, with the events in order
pub data Runs : Configuration → List Step → List Event → Configuration → Type 0 where
  runs_none : {c : Configuration} → Runs c [] [] c
  runs_silent : {c d f : Configuration} {s : Step} {ss : List Step} {es : List Event}
      → Takes c s None d → Runs d ss es f → Runs c (s ∷ ss) es f
  runs_event : {c d f : Configuration} {s : Step} {ss : List Step} {e : Event} {es : List Event}
      → Takes c s (Some e) d → Runs d ss es f → Runs c (s ∷ ss) (e ∷ es) f
