-- How a command answers on its input, whether it answers at all. No public clause names it.
use Rattle.std.specs.Prelude.{◌≡◌, ◌≢◌, ℕ, List, Result, Ok, Err}
use Rattle.std.specs.declared.option.Option.{Option}
use Rattle.std.specs.Io.KnownBytes.{Appends}
use Rattle.spi_play.specs.Way.{Seen}
use Rattle.spi_commands.specs.declared.answer.Answer.{Answer}
use Rattle.spi_commands.specs.declared.answer.Stop.{Stop}
use Rattle.spi_commands.specs.declared.answer.Stop.TheVariants.{NoMemory}
use Rattle.spi_commands.specs.declared.asked.Command.{Command}
use Rattle.spi_commands.specs.declared.asked.Command.TheVariants.{Play, Load, Narrate, Bench}
use Rattle.spi_commands.specs.declared.status.Status.{Status}
use Rattle.spi_commands.specs.Asked.{AreNumbersKnown}
use Rattle.spi_commands.specs.Playing.{LeavesPlayers}
use Rattle.spi_commands.specs.Commands.{AnswersTo, Promise}

-- the command goes over the file that its input spells
abbrev pub GoesOverFile : Command → Type 0
GoesOverFile command = ((sessions : ℕ) → command ≢ Load sessions) × (command ≢ Narrate) × (command ≢ Bench)

-- The command answers so on the bytes, where the players are seen so before and after. Or memory ran out, and a play left
-- them so.
abbrev pub IsAnsweredBy : Command → List ℕ → List Seen → List Seen → Result Answer Stop → Type 0
IsAnsweredBy command bytes before after (Ok answer) =
    AnswersTo command bytes before after answer.status answer.output.items
IsAnsweredBy command bytes before after (Err stop) =
    (stop ≡ NoMemory)
    × ((most : ℕ) (only : Option ℕ) → command ≡ Play most only → LeavesPlayers most only bytes before after)

-- where the answer of a command is appended, its promise is kept
abbrev pub KeepPromises : Type 0
KeepPromises = (players : ℕ) (command : Command) → AreNumbersKnown players command
    → (bytes : List ℕ) (before after : List Seen) (old new : Option (List ℕ)) (output : List ℕ)
    (status : Status) → AnswersTo command bytes before after status output → Appends old new output
    → Promise command bytes before after old new status
