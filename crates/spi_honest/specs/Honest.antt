-- What an honest schedule is, and why a narration has none.
use Rattle.std.specs.Prelude.{◌≡◌, ℕ, ◌<◌, List, [], ◌∷◌, ◌++◌, length, map, Option, option_to_list}
use Rattle.spi_term.specs.Lists.{At}
use Rattle.spi_term.specs.Term.{Process, stop}
use Rattle.spi_term.specs.Spelling.{stopped}
use Rattle.spi_narrate.specs.Narrations as n
use Rattle.spi_run.specs.Reduction.{Step, Event, Runs}
use Rattle.spi_run.specs.Safety.{beside}
use Rattle.spi_run.specs.View.{step, event}
use Rattle.spi_replay.specs.Stepping.{Pooled, IsTaken, largest, message_most}
use Rattle.spi_scope.specs.Scope.{Names}
use Rattle.spi_scope.specs.StandsFor.{Meant}
use Rattle.spi_honest.specs.declared.honest.Honest.{Honest}
use Rattle.spi_honest.specs.declared.fault.HonestFault.{HonestFault}
use Rattle.spi_honest.specs.declared.fault.HonestFault.TheVariants.{LineNotReady, NarratedTooLarge, NoMemory}
use Rattle.spi_honest.specs.Reading.{Map}
use Rattle.spi_honest.specs.Narrated.{Told, TellsLine, NarratesSmall, shown_by_event, free_of, narrated_begin}
use Rattle.spi_honest.specs.Schedule.{honest_steps}

-- the steps are taken one by one, each within the limits of a replay, with these events
pub data Replays : Pooled → List Step → List Event → Pooled → Type 0 where
  replays_none : {p : Pooled} → Replays p [] [] p
  replays_step : {p q r : Pooled} {s : Step} {e : Option Event} {ss : List Step} {es : List Event}
      → IsTaken p s e q → Replays q ss es r → Replays p (s ∷ ss) (option_to_list e ++ es) r

-- the process of a woven file beside its opponent, which is `stop`, with at most 5,000 places
abbrev pub opening : Meant → Pooled
opening file = record { configuration = beside file.process.names file.process.process stop; most = 5000 }

-- The events are those of the narration, and no message is too large. The steps have their order, run with these events, and
-- end with `stop` at every place.
pub record IsHonest (x : n.Narration) (file : Meant) (h : Honest) : Type 0 where
  pub told : Told
  pub last : Pooled
  pub narrates : NarratesSmall (free_of x) (narrated_begin x) x.lines (map event h.events.items) told
  pub order : map step h.steps.items ≡ honest_steps x
  pub replays : Replays (opening file) (map step h.steps.items) (map event h.events.items) last
  pub runs : Runs (opening file).configuration (map step h.steps.items) (map event h.events.items)
      last.configuration
  pub stops : (i : ℕ) (p : Process) → At last.configuration.places i p → p ≡ stop

-- the line with this number is wrong where the lines before it have values and messages that aren't too large
pub record LineIsWrongAt (x : n.Narration) (line : ℕ) (IsWrong : Told → n.Line → Type 0) : Type 0 where
  pub before : List n.Line
  pub here : n.Line
  pub after : List n.Line
  pub cut : x.lines ≡ before ++ here ∷ after
  pub number : length before ≡ line
  pub events : List Event
  pub told : Told
  pub narrates : NarratesSmall (free_of x) (narrated_begin x) before events told
  pub wrong : IsWrong told here

-- the line has no value
abbrev pub IsNotReady : Names → Told → n.Line → Type 0
IsNotReady free o l = (more : Map) (e : Option Event) (p : Told) → TellsLine free o l more e p → ⊥

-- the largest message that it binds or reports has so many nodes, more than 1,000
pub record IsTooLarge (free : Names) (nodes : ℕ) (o : Told) (l : n.Line) : Type 0 where
  pub more : Map
  pub event : Option Event
  pub then : Told
  pub tells : TellsLine free o l more event then
  pub large : message_most < largest (shown_by_event more event)
  pub count : nodes ≡ stopped (largest (shown_by_event more event))

-- why there is no honest schedule
abbrev pub HasHonestFault : n.Narration → HonestFault → Type 0
HasHonestFault x (LineNotReady line) = LineIsWrongAt x line (IsNotReady (free_of x))
HasHonestFault x (NarratedTooLarge line nodes) = LineIsWrongAt x line (IsTooLarge (free_of x) nodes)
HasHonestFault x NoMemory = ⊥
