-- The ready steps of a configuration, in their order.
use Rattle.std.specs.Prelude.{◌↔◌, ℕ, ◌+◌, ◌<◌, ◌==◌, if◌then◌else◌, List, [], ◌∷◌, Option, ⊤}
use Rattle.spi_term.specs.Lists.{At, In, AreAscending}
use Rattle.spi_term.specs.Term.{Message, Ty, Process, send, recv, serve}
use Rattle.spi_run.specs.Reduction.{Configuration, Step, act, talk, Event, Takes}

-- the step is ready
abbrev pub IsReady : Configuration → Step → Type 0
IsReady c s = (e : Option Event) × (d : Configuration) × Takes c s e d

-- the step is a talk, and ready
abbrev pub IsReadyTalk : Configuration → Step → Type 0
IsReadyTalk c (act i) = ⊥
IsReadyTalk c (talk i j) = IsReady c (talk i j)

-- the first place of a step
abbrev pub first_place : Step → ℕ
first_place (act i) = i
first_place (talk i j) = i

-- steps come by their first places, and the talks of one place by their inputs' places
pub data Before : Step → Step → Type 0 where
  before_place : {s t : Step} → first_place s < first_place t → Before s t
  before_input : {i j k : ℕ} → j < k → Before (talk i j) (talk i k)

abbrev pub AreOrdered : List Step → Type 0
AreOrdered [] = ⊤
AreOrdered (s ∷ ss) = ((t : Step) → In t ss → Before s t) × AreOrdered ss

-- these are the ready steps, in their order
pub record AreReady (c : Configuration) (ss : List Step) : Type 0 where
  pub ready : (s : Step) → In s ss ↔ IsReady c s
  pub ordered : AreOrdered ss

-- how many of the steps begin at a place
abbrev pub count_at : ℕ → List Step → ℕ
count_at i [] = 0
count_at i (s ∷ ss) = (if first_place s == i then 1 else 0) + count_at i ss

-- the process puts out on the channel, or takes in on it
pub data PutsOut (m : Message) : Process → Type 0 where
  puts_out : {n : Message} → PutsOut m (send m n)

pub data TakesIn (m : Message) : Process → Type 0 where
  takes_once : {t : Ty} {p : Process} → TakesIn m (recv m t p)
  takes_again : {t : Ty} {p : Process} → TakesIn m (serve m t p)

-- the places whose processes are such, ascending
pub record AreReadyPlaces (P : Process → Type 0) (ps : List Process) (is : List ℕ) : Type 0 where
  pub each : (i : ℕ) → In i is ↔ ((p : Process) × At ps i p × P p)
  pub ascending : AreAscending is
