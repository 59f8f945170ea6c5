-- What a play leaves.
use Rattle.std.specs.Prelude.{◌≡◌, ℕ, ◌<◌, ◌≤◌, All, IfSome, IsSome, List, length, map, slice_get, slice_set, Option, Some, None}
use Rattle.spi_run.specs.Reduction.{Step, Event}
use Rattle.spi_run.specs.View as View
use Rattle.spi_run.specs.declared.step.Step as steps
use Rattle.spi_run.specs.declared.step.Event as events
use Rattle.spi_replay.specs.declared.fault.StepFault.{StepFault}
use Rattle.spi_replay.specs.declared.fault.StepFault.TheVariants as refused
use Rattle.spi_replay.specs.Stepping.{Pooled, RefusesPoolStep}
use Rattle.spi_play.specs.declared.player.Pick.{Pick}
use Rattle.spi_play.specs.declared.player.Pick.TheVariants.{Take}
use Rattle.spi_play.specs.declared.plays.Ended.{Ended}
use Rattle.spi_play.specs.declared.plays.PlayFault.{PlayFault}
use Rattle.spi_play.specs.declared.plays.PlayFault.TheVariants.{BadPick, RunMessageTooLarge, TooManyPlaces, NoMemory}
use Rattle.spi_play.specs.Way.{Seen}
use Rattle.spi_play.specs.Play.{Course, Seat, PlayState, TurnOf, IsKth, EndsBy, PlayGoesOn, Picks, Plays}

-- what was done, by the program's own steps and events
abbrev pub course : Pooled → List steps.Step → List events.Event → Course
course pool steps events = record { pool = pool; steps = map View.step steps; events = map View.event events }

-- A play that started so stands here: what was done, what is seen of the players in the list, and which is asked next.
pub record PlayStands (only : Option ℕ) (most : ℕ) (first : PlayState) (done : Course) (players : List Seen)
    (next : Option ℕ) : Type 0 where
  pub turns : List TurnOf
  pub seats : List Seat
  pub plays : Plays only most first turns (record { course = done; seats = seats; next = next })
  pub seen : map (λ seat. seat.seen) seats ≡ players

-- A play that started so has ended so.
pub record EndsAt (only : Option ℕ) (most : ℕ) (first : PlayState) (done : Course) (players : List Seen)
    (ended : Ended) : Type 0 where
  pub next : Option ℕ
  pub stands : PlayStands only most first done players next
  pub end : EndsBy done.pool.configuration next (length done.steps) most ended

-- the player at this place of the list is asked and answers so, and this is seen of the players after
pub record AsksAt (players : List Seen) (place ready : ℕ) (pick : Pick) (after : List Seen) : Type 0 where
  pub old : Seen
  pub new : Seen
  pub was : slice_get players place ≡ Some old
  pub picks : Picks old ready pick new
  pub others : after ≡ slice_set players place new

-- the pool refuses the ready step with this number so
pub record RefusesKth (pool : Pooled) (k : ℕ) (fault : StepFault) : Type 0 where
  pub step : Step
  pub kth : IsKth pool.configuration k step
  pub refuses : RefusesPoolStep pool.configuration pool.most step fault

-- why the number that the player at this place picked isn't taken, where so many steps are ready
abbrev pub IsPickRefused : Pooled → ℕ → ℕ → ℕ → PlayFault → Type 0
IsPickRefused pool place ready k (BadPick player picked count) = (player ≡ place) × (picked ≡ k)
    × (count ≡ ready)
    × (ready ≤ k)
IsPickRefused pool place ready k (RunMessageTooLarge nodes) =
    RefusesKth pool k (refused.RunMessageTooLarge nodes)
IsPickRefused pool place ready k (TooManyPlaces places) = RefusesKth pool k (refused.TooManyPlaces places)
IsPickRefused pool place ready k NoMemory = k < ready

-- A play that started so is refused here: it stands as it is, but that the player asked next was asked once more, and what
-- it picked is refused so.
pub record RefusedAt (only : Option ℕ) (most : ℕ) (first : PlayState) (pool : Pooled) (players : List Seen)
    (fault : PlayFault) : Type 0 where
  pub steps : List Step
  pub events : List Event
  pub before : List Seen
  pub next : Option ℕ
  pub stands : PlayStands only most first (record { pool = pool; steps = steps; events = events }) before next
  pub place : ℕ
  pub ready : ℕ
  pub goes_on : PlayGoesOn pool.configuration next (length steps) most place ready
  pub picked : ℕ
  pub asks : AsksAt before place ready (Take picked) players
  pub refused : IsPickRefused pool place ready picked fault

-- each player that may be asked told its way: all, or the one at this place
abbrev pub AskedTell : Option ℕ → List Seen → Type 0
AskedTell None players = All (λ player. IsSome player.way) players
AskedTell (Some place) players = IfSome (slice_get players place) (λ player. IsSome player.way)

-- any play that started so and has ended did these steps
abbrev pub OnlyPlay : Option ℕ → ℕ → PlayState → List Step → Type 0
OnlyPlay only most first steps =
    (turns : List TurnOf) (last : PlayState) (ended : Ended) → Plays only most first turns last
    → EndsBy last.course.pool.configuration last.next (length last.course.steps) most ended
    → last.course.steps ≡ steps
