-- What `replay` answers and promises.
use Rattle.std.specs.Prelude.{◌≡◌, ◌↔◌, ◌⊎◌, ℕ, List}
use Rattle.std.specs.declared.option.Option.{Option}
use Rattle.spi_run.specs.Reduction.{Event}
use Rattle.spi_run.specs.Safety.{Paid, PaidMany}
use Rattle.spi_trace.specs.Pairing.{IsPairing}
use Rattle.spi_scope.specs.StandsFor.{Meant}
use Rattle.spi_report.specs.Events.{events_text}
use Rattle.spi_commands.specs.declared.status.Status.{Status}
use Rattle.spi_commands.specs.declared.status.Status.TheVariants.{Yes, No, Refused}
use Rattle.spi_commands.specs.Spelled.{SpellsFile, SpellsDerivable, SpellsNone}
use Rattle.spi_commands.specs.Answers.{Answers}
use Rattle.spi_commands.specs.Refusals.{IsLineOf}
use Rattle.spi_commands.specs.Replays.{RunsThrough, SpellsUnplayed, RefusesReplay}

-- each end and endmany of them is paid
abbrev pub AreEventsPaid : List Event → Type 0
AreEventsPaid events = Paid events × PaidMany events

-- the bytes spell a file whose schedule runs through with events that are paid, or with events that aren't
abbrev pub SpellsPaid : List ℕ → Type 0
SpellsPaid bytes = (file : Meant) × (events : List Event) × SpellsFile bytes file × RunsThrough file events
    × AreEventsPaid events

abbrev pub SpellsUnpaid : List ℕ → Type 0
SpellsUnpaid bytes = (file : Meant) × (events : List Event) × SpellsFile bytes file × RunsThrough file events
    × (¬ AreEventsPaid events)

-- the text has the events, each end with the begin that pays for it
abbrev pub IsReplayText : Meant → List Event → List ℕ → Type 0
IsReplayText file events output = (from : List (Option ℕ)) × IsPairing events from
    × (output ≡ events_text file.names events from)

-- the status tells whether the events are paid
abbrev pub AreEventsJudged : List Event → Status → Type 0
AreEventsJudged events status =
    ((status ≡ Yes) × AreEventsPaid events) ⊎ ((status ≡ No) × (¬ AreEventsPaid events))

abbrev pub IsPaidReplay : List ℕ → List ℕ → Type 0
IsPaidReplay bytes output =
    (file : Meant) × (events : List Event) × SpellsFile bytes file × RunsThrough file events
    × AreEventsPaid events
    × IsReplayText file events output

abbrev pub IsUnpaidReplay : List ℕ → List ℕ → Type 0
IsUnpaidReplay bytes output =
    (file : Meant) × (events : List Event) × SpellsFile bytes file × RunsThrough file events
    × (¬ AreEventsPaid events) × IsReplayText file events output

-- yes, no, or a refusal
abbrev pub ReplaysTo : List ℕ → Status → List ℕ → Type 0
ReplaysTo bytes = Answers (IsPaidReplay bytes) (IsUnpaidReplay bytes) (IsLineOf bytes (RefusesReplay bytes))

-- `replay` answers yes exactly where the file's schedule runs through beside its opponent with events that are all paid, no
-- exactly where it runs through with others, and refused where the file is none, lacks a part, has no opponent in its
-- opponent part, or has a step that is refused; and after a no the file's process has no derivation of empty effect.
pub record IsReplayed (bytes : List ℕ) (status : Status) : Type 0 where
  pub yes : (status ≡ Yes) ↔ SpellsPaid bytes
  pub no : (status ≡ No) ↔ SpellsUnpaid bytes
  pub refused : (status ≡ Refused) ↔ (SpellsNone bytes ⊎ SpellsUnplayed bytes)
  pub refutes : status ≡ No → ¬ SpellsDerivable bytes
