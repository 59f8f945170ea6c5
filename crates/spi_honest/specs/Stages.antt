-- What a stage does with a step. No public clause names it.
use Rattle.std.specs.Prelude.{◌≡◌, ℕ, suc, ◌≤◌, ◌<◌, List, [], ◌∷◌, ◌++◌, length, map, take, drop, slice_get, Option, Some, option_to_list}
use Rattle.spi_term.specs.Lists.{At, In}
use Rattle.spi_term.specs.Term.{Message, Process}
use Rattle.spi_term.specs.Spelling.{stopped}
use Rattle.spi_run.specs.Reduction.{Configuration, Step, act, Event, Takes}
use Rattle.spi_run.specs.View.{step, event}
use Rattle.spi_replay.specs.Ready.{IsReady, PutsOut, TakesIn}
use Rattle.spi_replay.specs.Stepping.{Pooled, IsTaken, places_named, largest, message_most, bound_by}
use Rattle.spi_text.specs.declared.lines.Span.{Span}
use Rattle.spi_tree.specs.declared.tree.SWord.{SWord}
use Rattle.spi_tree.specs.Trees.{Msg}
use Rattle.spi_narrate.specs.Narrations as n
use Rattle.spi_scope.specs.Scope.{Word, number_of}
use Rattle.spi_scope.specs.StandsFor.{Meant}
use Rattle.spi_honest.specs.Narrated.{free_of}
use Rattle.spi_honest.specs.Schedule.{moved}
use Rattle.spi_honest.specs.Standing.{Locates}
use Rattle.spi_honest.specs.Progress.{Progress, Shares, SpreadsRoles}
use Rattle.spi_honest.specs.declared.stage.Stage.{Stage}
use Rattle.spi_honest.specs.declared.fault.HonestFault.{HonestFault}
use Rattle.spi_honest.specs.declared.fault.HonestFault.TheVariants.{LineNotReady, NarratedTooLarge, NoMemory}

-- the step was taken, and noted with its event
pub record TookStep (old new : Stage) (s : Step) : Type 0 where
  pub event : Option Event
  pub taken : IsTaken old.pool s event new.pool
  pub steps : map step new.steps.items ≡ map step old.steps.items ++ s ∷ []
  pub events : map Rattle.spi_run.specs.View.event new.events.items
      ≡ map Rattle.spi_run.specs.View.event old.events.items ++ option_to_list event
  pub places : new.places.items ≡ old.places.items

-- the places that the step names are there, and no place too many comes by it
pub record IsRoomy (p : Pooled) (s : Step) : Type 0 where
  pub inside : (i : ℕ) → In i (places_named s) → i < length p.configuration.places
  pub room : (e : Option Event) (d : Configuration) → Takes p.configuration s e d → length d.places ≤ p.most

-- the step of this line isn't ready, or a message of it is too large
abbrev pub IsStepRefused : Pooled → Step → ℕ → HonestFault → Type 0
IsStepRefused p s line (LineNotReady k) = (k ≡ line) × (IsReady p.configuration s → ⊥)
IsStepRefused p s line (NarratedTooLarge k nodes) =
    (k ≡ line) × IsReady p.configuration s × (message_most < largest (bound_by p.configuration s))
    × (nodes ≡ stopped (largest (bound_by p.configuration s)))
IsStepRefused p s line NoMemory = ⊥

-- the process at a place puts out, or takes in, on this channel
abbrev pub PutsAt : Message → List Process → ℕ → Type 0
PutsAt m ps i = (p : Process) × At ps i p × PutsOut m p

abbrev pub TakesAt : Message → List Process → ℕ → Type 0
TakesAt m ps i = (p : Process) × At ps i p × TakesIn m p

-- the role with this number has this word
abbrev pub IsRoleAt : List SWord → Word → ℕ → Type 0
IsRoleAt roles w j = (r : SWord) × (slice_get roles j ≡ Some r) × (r.word ≡ w)

abbrev pub stage_steps : Stage → List Step
stage_steps st = map step st.steps.items

abbrev pub events_in : Stage → List Event
events_in st = map event st.events.items

-- so many shared names were made, so many compositions of roles were taken apart, and so many lines were told
pub record SharesTo (x : n.Narration) (file : Meant) (i : ℕ) (st : Stage) : Type 0 where
  pub shares : Shares x file (take i x.shared) (drop i x.shared) st.pool (stage_steps st)
  pub quiet : events_in st ≡ []

pub record SpreadsTo (x : n.Narration) (file : Meant) (i : ℕ) (st : Stage) : Type 0 where
  pub role : SWord
  pub here : slice_get x.roles i ≡ Some role
  pub spreads : SpreadsRoles x file (take i x.roles) role (drop (suc i) x.roles) st.pool (stage_steps st)
  pub quiet : events_in st ≡ []

abbrev pub ToldTo : n.Narration → Meant → ℕ → Stage → Type 0
ToldTo x file i st =
    Progress x file (take i x.lines) (drop i x.lines) st.pool (stage_steps st) (events_in st) st.places.items

-- the line with this number is of the role with this number, or is a message between roles with these numbers
pub record IsLocalAt (x : n.Narration) (at j : ℕ) : Type 0 where
  pub span : Span
  pub who : SWord
  pub prefix : n.Prefix
  pub here : slice_get x.lines at ≡ Some (n.local span who prefix)
  pub role : IsRoleAt x.roles who.word j

pub record IsPassAt (x : n.Narration) (at j k i : ℕ) : Type 0 where
  pub span : Span
  pub from : SWord
  pub to : SWord
  pub channel : SWord
  pub datum : Msg
  pub name : SWord
  pub here : slice_get x.lines at ≡ Some (n.pass span from to channel datum name)
  pub sender : IsRoleAt x.roles from.word j
  pub receiver : IsRoleAt x.roles to.word k
  pub number : number_of (free_of x) channel.word ≡ Some i

-- the output of a message was taken apart, and stands at a place
pub record IsParted (x : n.Narration) (file : Meant) (at j k i out : ℕ) (st : Stage) : Type 0 where
  pub line : IsPassAt x at j k i
  pub pool : Pooled
  pub steps : List Step
  pub events : List Event
  pub is : List ℕ
  pub told : Progress x file (take at x.lines)
      (n.pass line.span line.from line.to line.channel line.datum line.name ∷ drop (suc at) x.lines) pool
      steps events is
  pub event : Option Event
  pub taken : IsTaken pool (act (told.place line.from.word)) event st.pool
  pub place : out ≡ told.place line.from.word
  pub steps_now : stage_steps st ≡ steps ++ act (told.place line.from.word) ∷ []
  pub events_now : events_in st ≡ events ++ option_to_list event
  pub located : Locates x.roles (moved line.from.word (length pool.configuration.places) told.place)
      st.places.items
