-- What a replay leaves. No public clause names it.
use Rattle.std.specs.Prelude.{◌≡◌, ℕ, ◌<◌, ◌≤◌, ◌^◌, List, [], ◌∷◌, Bool, true, length, map, Some, None}
use Rattle.std.specs.declared.option.Option.{Option}
use Rattle.spi_term.specs.declared.term.Msg.{Msg}
use Rattle.spi_run.specs.Knowledge.{shown}
use Rattle.spi_run.specs.Reduction.{Configuration, Step}
use Rattle.spi_replay.specs.Ready.{IsReadyTalk}
use Rattle.spi_term.specs.Term.{Message}
use Rattle.spi_term.specs.View.{message}
use Rattle.spi_run.specs.View.{event}
use Rattle.spi_know.specs.Numbered.{nodes_in}
use Rattle.spi_scope.specs.StandsFor.{Meant}
use Rattle.spi_commands.specs.declared.schedule.Talks.{Talks}
use Rattle.spi_commands.specs.declared.schedule.Ran.{Ran}
use Rattle.spi_commands.specs.declared.schedule.Ran.TheVariants.{Through, Refused}
use Rattle.spi_commands.specs.Refusals.{IsLineOf}
use Rattle.spi_commands.specs.Replays.{RunsThrough, RefusesReplay, talks_most}

-- the nodes of the data are counted, and the data kept where these are few
abbrev pub AreTalks : List Message → Talks → Type 0
AreTalks ms talks = (talks.nodes ≡ nodes_in ms)
    × (nodes_in ms ≤ talks_most → map message talks.data.items ≡ ms)

-- what a step hands over, where that is asked for
abbrev pub IsDatum : Bool → Configuration → Step → Option Msg → Type 0
IsDatum keeps c s None = keeps ≡ true → ¬ IsReadyTalk c s
IsDatum keeps c s (Some m) = IsReadyTalk c s × (shown c s ≡ message m ∷ [])

abbrev pub messages_said : Option Msg → List Message
messages_said None = []
messages_said (Some m) = message m ∷ []

-- the line is that of one of these causes
abbrev pub IsRefused : List ℕ → (ℕ → Option ℕ → List ℕ → Type 0) → Ran → Type 0
IsRefused bytes causes (Through replay) = ⊥
IsRefused bytes causes (Refused line) = IsLineOf bytes causes line.items

-- the schedule ran through, and its talks are kept where that was asked for; or the line is that of its refusal
abbrev pub IsRan : List ℕ → Meant → Bool → Ran → Type 0
IsRan bytes file keeps (Through replay) =
    (t : RunsThrough file (map event replay.events.items)) × (keeps ≡ true → AreTalks t.talks replay.talks)
    × (replay.names ≡ t.last.configuration.names) × (length replay.events.items < 2 ^ 32)
IsRan bytes file keeps (Refused line) = IsLineOf bytes (RefusesReplay bytes) line.items
