-- What a trace is.
use Rattle.std.specs.Prelude.{◌≡◌, ℕ, List, map, Option, Some, None}
use Rattle.spi_run.specs.Reduction.{Event}
use Rattle.spi_run.specs.View.{event}
use Rattle.spi_replay.specs.declared.fault.StepFault.{StepFault}
use Rattle.spi_scope.specs.StandsFor.{Meant}
use Rattle.spi_course.specs.Fit.{IsCourseOf}
use Rattle.spi_course.specs.declared.course.Course.{Course}
use Rattle.spi_commands.specs.Beside.{LacksOpponent}
use Rattle.spi_commands.specs.Refusals.{layered, Refuses, IsLineOf}
use Rattle.spi_commands.specs.Replaying.{AreEventsJudged}
use Rattle.spi_commands.specs.Replays.{LacksSchedule, IsOffended}
use Rattle.spi_commands.specs.Spelled.{SpellsFile}
use Rattle.spi_commands.specs.declared.status.Status.{Status}
use Rattle.spi_commands.specs.declared.status.Status.TheVariants.{Refused}

-- the status where this step is refused behind these events, or none is: as `replay` has it
abbrev pub EndsWith : Option StepFault → List Event → Status → Type 0
EndsWith None events status = AreEventsJudged events status
EndsWith (Some fault) events status = status ≡ Refused

-- the course is the one of the file that the bytes spell, and the status tells how it ends
pub record TellsCourse (bytes : List ℕ) (course : Course) (status : Status) : Type 0 where
  pub file : Meant
  pub spells : SpellsFile bytes file
  pub taken : IsCourseOf file course
  pub ends : EndsWith course.refused (map event course.events.items) status

-- what `replay` refuses before any step
abbrev pub RefusesSchedule : List ℕ → ℕ → Option ℕ → List ℕ → Type 0
RefusesSchedule bytes =
    layered (Refuses bytes) (layered (LacksOpponent bytes) (layered (LacksSchedule bytes) (IsOffended bytes)))

-- the course is told, or the output is the line of such a refusal
abbrev pub Traces : List ℕ → Option Course → Status → List ℕ → Type 0
Traces bytes None status output = (status ≡ Refused) × IsLineOf bytes (RefusesSchedule bytes) output
Traces bytes (Some course) status output = TellsCourse bytes course status
