-- What is told of the steps of a schedule.
use Rattle.std.specs.Prelude.{◌≡◌, ℕ, ◌+◌, if◌then◌else◌, nat_lt, List, [], ◌∷◌, ◌++◌, length, map, option_to_list, Some, None}
use Rattle.std.specs.declared.option.Option.{Option}
use Rattle.spi_term.specs.declared.term.Msg.{Msg}
use Rattle.spi_term.specs.View.{message}
use Rattle.spi_run.specs.Knowledge.{shown}
use Rattle.spi_run.specs.Reduction.{Configuration, Step, act, talk, Event}
use Rattle.spi_run.specs.View.{step, event}
use Rattle.spi_replay.specs.declared.fault.StepFault.{StepFault}
use Rattle.spi_replay.specs.Stepping.{Pooled, IsTaken, RefusesPoolStep}
use Rattle.spi_course.specs.declared.course.Taken.{Taken}
use Rattle.spi_course.specs.declared.course.Course.{Course}

-- what a step hands over: what a talk shows, and nothing where a place acts alone
abbrev pub HandsOver : Configuration → Step → Option Msg → Type 0
HandsOver c (act i) d = d ≡ None
HandsOver c (talk i j) d = (m : Msg) × (d ≡ Some m) × (shown c (talk i j) ≡ message m ∷ [])

-- the number of an event, where so many came before
abbrev pub event_number : ℕ → Option Event → Option ℕ
event_number n None = None
event_number n (Some e) = Some n

-- the number that is new where there were n and are m
abbrev pub grown : ℕ → ℕ → Option ℕ
grown n m = if nat_lt n m then Some n else None

-- The step is taken with this event, behind n others. Told are what it hands over, the number of its event, the name that
-- is new and the place that is new.
pub record IsStepTold (p : Pooled) (n : ℕ) (t : Taken) (e : Option Event) (q : Pooled) : Type 0 where
  pub takes : IsTaken p (step t.step) e q
  pub datum : HandsOver p.configuration (step t.step) t.datum
  pub event : t.event ≡ event_number n e
  pub made : t.made ≡ grown p.configuration.names q.configuration.names
  pub added : t.added ≡ grown (length p.configuration.places) (length q.configuration.places)

-- the same of the steps one by one, with their events
pub data TellsSteps : Pooled → ℕ → List Taken → List Event → Pooled → Type 0 where
  tells_none : {p : Pooled} {n : ℕ} → TellsSteps p n [] [] p
  tells_step : {p q r : Pooled} {n : ℕ} {t : Taken} {e : Option Event} {ts : List Taken} {es : List Event}
      → IsStepTold p n t e q → TellsSteps q (n + length (option_to_list e)) ts es r
      → TellsSteps p n (t ∷ ts) (option_to_list e ++ es) r

abbrev pub steps_of : List Taken → List Step
steps_of ts = map (λ t. step t.step) ts

-- why no more steps are told: none is left, or the next one is refused
pub data IsEndOfCourse (q : Pooled) : List Step → Option StepFault → Type 0 where
  all_taken : IsEndOfCourse q [] None
  one_refused : {s : Step} {ss : List Step} {fault : StepFault}
      → RefusesPoolStep q.configuration q.most s fault → IsEndOfCourse q (s ∷ ss) (Some fault)

-- the steps of the schedule up to the first that is refused, each told as it was taken
pub record IsCourse (p : Pooled) (steps : List Step) (c : Course) (q : Pooled) : Type 0 where
  pub late : List Step
  pub split : steps ≡ steps_of c.taken.items ++ late
  pub told : TellsSteps p 0 c.taken.items (map event c.events.items) q
  pub end : IsEndOfCourse q late c.refused
