-- Replays of a file's schedule beside its opponent.
use Rattle.std.specs.Prelude.{◌≡◌, ℕ, List, [], ◌∷◌, ◌++◌, length, Some, None, codes, option_to_list}
use Rattle.std.specs.declared.option.Option.{Option}
use Rattle.std.specs.Fmt.{decimal}
use Rattle.spi_text.specs.declared.lines.Span.{Span}
use Rattle.spi_tree.specs.Trees.{File}
use Rattle.spi_term.specs.Spelling.{Spelling}
use Rattle.spi_term.specs.Term.{Message}
use Rattle.spi_run.specs.Opponent.{IsOpponent}
use Rattle.spi_run.specs.Reduction.{Step, Event}
use Rattle.spi_know.specs.Sent.{handed}
use Rattle.spi_replay.specs.declared.fault.StepFault.{StepFault}
use Rattle.spi_replay.specs.declared.fault.StepFault.TheVariants.{NoPlace, NotReady, RunMessageTooLarge, TooManyPlaces, NoMemory as OutOfMemory}
use Rattle.spi_replay.specs.Stepping.{Pooled, places_most, RefusesPoolStep as RefusesStep, IsTaken}
use Rattle.spi_scope.specs.Files.{step_places}
use Rattle.spi_scope.specs.Places.{place_in}
use Rattle.spi_scope.specs.StandsFor.{Meant, StandsFor}
use Rattle.spi_commands.specs.Spelled.{IsTreeOf, SpellsFile}
use Rattle.spi_commands.specs.Refusals.{layered, Refuses, IsMissing}
use Rattle.spi_commands.specs.Beside.{replay_pool, HasOpponent, LacksOpponent, HasOffence}

-- the steps are taken one by one, each within the limits, with these events, and these data of their talks
pub data ReplaysWithTalks : Pooled → List Step → List Event → List Message → Pooled → Type 0 where
  replays_none : {p : Pooled} → ReplaysWithTalks p [] [] [] p
  replays_step : {p q r : Pooled} {s : Step} {e : Option Event} {ss : List Step} {es : List Event}
      {ms : List Message}
      → IsTaken p s e q → ReplaysWithTalks q ss es ms r
      → ReplaysWithTalks p (s ∷ ss) (option_to_list e ++ es) (handed p.configuration s ++ ms) r

-- the steps before this one are taken, and it is refused so
pub record IsRefusedAt (p : Pooled) (steps : List Step) (index : ℕ) (fault : StepFault) : Type 0 where
  pub early : List Step
  pub step : Step
  pub late : List Step
  pub events : List Event
  pub talks : List Message
  pub mid : Pooled
  pub split : steps ≡ early ++ step ∷ late
  pub at : index ≡ length early
  pub replays : ReplaysWithTalks p early events talks mid
  pub refuses : RefusesStep mid.configuration mid.most step fault

-- how many nodes the data of its talks may have where they are asked for
abbrev pub talks_most : ℕ
talks_most = 20000

-- the file's schedule runs through beside its opponent, with these events
pub record RunsThrough (file : Meant) (events : List Event) : Type 0 where
  pub opponent : Spelling
  pub steps : List Step
  pub talks : List Message
  pub last : Pooled
  pub beside : HasOpponent file opponent
  pub schedule : file.schedule ≡ Some steps
  pub replays : ReplaysWithTalks (replay_pool places_most file opponent) steps events talks last

-- why a file isn't replayed
pub data IsUnplayed (file : Meant) : Type 0 where
  no_opponent_part : file.opponent ≡ None → IsUnplayed file
  no_schedule : file.schedule ≡ None → IsUnplayed file
  no_opponent : {o : Spelling} → file.opponent ≡ Some o → ¬ IsOpponent o.process → IsUnplayed file
  no_step : {o : Spelling} {steps : List Step} {i : ℕ} {fault : StepFault} → HasOpponent file o
      → file.schedule ≡ Some steps
      → IsRefusedAt (replay_pool places_most file o) steps i fault → IsUnplayed file

abbrev pub SpellsUnplayed : List ℕ → Type 0
SpellsUnplayed bytes = (file : Meant) × SpellsFile bytes file × IsUnplayed file

-- where step number i of a tree's schedule stands
abbrev pub step_at : File → ℕ → Span
step_at tree i = place_in (step_places tree.schedule) i

-- the number of a refused step's cause, and what it shows
abbrev pub step_number : StepFault → ℕ
step_number (NoPlace place) = 60
step_number (NotReady place) = 61
step_number (RunMessageTooLarge nodes) = 62
step_number (TooManyPlaces places) = 63
step_number OutOfMemory = 0

abbrev pub step_shown : StepFault → List ℕ
step_shown (NoPlace place) = decimal place
step_shown (NotReady place) = decimal place
step_shown (RunMessageTooLarge nodes) = decimal nodes
step_shown (TooManyPlaces places) = decimal places
step_shown OutOfMemory = []

-- there is an opponent part and no schedule
abbrev pub LacksSchedule : List ℕ → ℕ → Option ℕ → List ℕ → Type 0
LacksSchedule bytes number offset shown =
    (file : Meant) × (o : Spelling) × SpellsFile bytes file × (file.opponent ≡ Some o)
    × (file.schedule ≡ None)
    × IsMissing (codes "schedule") number offset shown

-- both parts are there, and the opponent part is none
abbrev pub IsOffended : List ℕ → ℕ → Option ℕ → List ℕ → Type 0
IsOffended bytes number offset shown =
    HasOffence bytes number offset shown
    × ((file : Meant) × (steps : List Step) × SpellsFile bytes file × (file.schedule ≡ Some steps))

-- a step of the schedule is refused
pub data IsStepRefusal (tree : File) (first : Pooled) (steps : List Step) : ℕ → Option ℕ → List ℕ
    → Type 0 where
  step_refused : {i : ℕ} {fault : StepFault} → IsRefusedAt first steps i fault
      → IsStepRefusal tree first steps (step_number fault) (Some (step_at tree i).from) (step_shown fault)

abbrev pub HasStepRefusal : List ℕ → ℕ → Option ℕ → List ℕ → Type 0
HasStepRefusal bytes number offset shown =
    (tree : File) × (file : Meant) × (o : Spelling) × (steps : List Step) × IsTreeOf bytes tree
    × StandsFor tree file
    × HasOpponent file o × (file.schedule ≡ Some steps)
    × IsStepRefusal tree (replay_pool places_most file o) steps number offset shown

-- what a replay is refused for
abbrev pub RefusesReplay : List ℕ → ℕ → Option ℕ → List ℕ → Type 0
RefusesReplay bytes =
    layered (Refuses bytes)
    (layered (LacksOpponent bytes)
    (layered (LacksSchedule bytes) (layered (IsOffended bytes) (HasStepRefusal bytes))))
