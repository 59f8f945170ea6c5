-- The files whose schedules can be told, and what is told of them.
use Rattle.std.specs.Prelude.{◌≡◌, ◌+◌, ◌-◌, ◌^◌, ◌<◌, List, length, Some, None, ⊤}
use Rattle.spi_term.specs.Spelling.{Spelling, spelled}
use Rattle.spi_run.specs.Opponent.{IsOpponent}
use Rattle.spi_run.specs.Safety.{beside}
use Rattle.spi_run.specs.Reduction.{Step}
use Rattle.spi_opponent.specs.Allowed.{IsFirstOffence}
use Rattle.spi_replay.specs.Stepping.{Pooled, places_most}
use Rattle.spi_scope.specs.StandsFor.{Meant}
use Rattle.spi_course.specs.Courses.{IsCourse}
use Rattle.spi_course.specs.declared.course.Course.{Course}
use Rattle.spi_course.specs.declared.answer.Untold.{Untold}
use Rattle.spi_course.specs.declared.answer.Untold.TheVariants.{NoOpponent, NoSchedule, NotOpponent, NoMemory}

-- process and opponent are over the same names, and with the steps these are few: each file that is read is so
pub record IsFit (file : Meant) : Type 0 where
  pub names : (o : Spelling) → file.opponent ≡ Some o → file.process.names ≡ o.names
  pub few : (steps : List Step) → file.schedule ≡ Some steps → file.process.names + length steps < 2 ^ 32 - 1

-- the process at place 0 and the opponent at place 1
abbrev pub course_pool : Spelling → Spelling → Pooled
course_pool p o = record { configuration = beside p.names p.process o.process; most = places_most }

-- the file has an opponent and a schedule, and this is the course of its steps beside that opponent
pub record IsCourseOf (file : Meant) (course : Course) : Type 0 where
  pub opponent : Spelling
  pub steps : List Step
  pub last : Pooled
  pub has : file.opponent ≡ Some opponent
  pub is : IsOpponent opponent.process
  pub schedule : file.schedule ≡ Some steps
  pub taken : IsCourse (course_pool file.process opponent) steps course last

-- why nothing is told: the opponent is missing, or the schedule beside it, or with both the opponent part is no opponent
abbrev pub IsUntold : Meant → Untold → Type 0
IsUntold file NoOpponent = file.opponent ≡ None
IsUntold file NoSchedule = (o : Spelling) × (file.opponent ≡ Some o) × (file.schedule ≡ None)
IsUntold file (NotOpponent node) =
    (o : Spelling) × (steps : List Step) × (file.opponent ≡ Some o) × (file.schedule ≡ Some steps)
    × IsFirstOffence (spelled o.names o.process) node
IsUntold file NoMemory = ⊤
