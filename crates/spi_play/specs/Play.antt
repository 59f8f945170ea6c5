-- A play: which turns it may have.
use Rattle.std.specs.Prelude.{◌≡◌, ◌≢◌, ℕ, ◌+◌, ◌<◌, ◌==◌, if◌then◌else◌, List, [], ◌∷◌, ◌++◌, length, slice_get, slice_set, remove, Option, Some, None}
use Rattle.std.specs.Option.{option_to_list}
use Rattle.spi_run.specs.Reduction.{Configuration, Step, Event}
use Rattle.spi_replay.specs.Ready.{AreReady}
use Rattle.spi_replay.specs.Stepping.{Pooled, IsTaken}
use Rattle.spi_play.specs.declared.player.Pick.{Pick}
use Rattle.spi_play.specs.declared.player.Pick.TheVariants.{Take, Leave}
use Rattle.spi_play.specs.declared.plays.Ended.{Ended}
use Rattle.spi_play.specs.declared.plays.Ended.TheVariants.{MostReached, NoPlayers, NoneReady}
use Rattle.spi_play.specs.Way.{Seen, FollowsWay, next_count}

-- the number of ready steps
abbrev pub CountsReady : Configuration → ℕ → Type 0
CountsReady c n = (ss : List Step) × AreReady c ss × (n ≡ length ss)

-- the ready step with this number, in their order
abbrev pub IsKth : Configuration → ℕ → Step → Type 0
IsKth c k s = (ss : List Step) × AreReady c ss × (slice_get ss k ≡ Some s)

-- what was done: the pool after it, and its steps and events
pub record Course : Type 0 where
  pub pool : Pooled
  pub steps : List Step
  pub events : List Event

-- a player that is still in the list: its place at entry, and what is seen of it
pub record Seat : Type 0 where
  pub who : ℕ
  pub seen : Seen

-- a play as it stands, with the place in the list of the player that is asked next
pub record PlayState : Type 0 where
  pub course : Course
  pub seats : List Seat
  pub next : Option ℕ

-- a turn: a player by its place at entry, how many steps were ready, and what it answered
pub record TurnOf : Type 0 where
  pub who : ℕ
  pub ready : ℕ
  pub pick : Pick

-- the players by their places, from this one on
abbrev pub seats_from : ℕ → List Seen → List Seat
seats_from i [] = []
seats_from i (seen ∷ players) = record { who = i; seen = seen } ∷ seats_from (i + 1) players

-- The cursor, by the one player that may be asked, if there is such a one, and the number of players in the list: the
-- place that is asked first,
abbrev pub first_seat : Option ℕ → ℕ → Option ℕ
first_seat None players = if players == 0 then None else Some 0
first_seat (Some only) players = Some only

-- after the player at this place took a step,
abbrev pub after_take : Option ℕ → ℕ → ℕ → Option ℕ
after_take None place players = if place + 1 == players then Some 0 else Some (place + 1)
after_take (Some only) place players = Some place

-- and after the player at this place left.
abbrev pub after_leave : Option ℕ → ℕ → ℕ → Option ℕ
after_leave None place players =
    if players == 0 then None else (if place == players then Some 0 else Some place)
after_leave (Some only) place players = None

-- how a play starts
abbrev pub start : Pooled → List Seen → Option ℕ → PlayState
start pool players only = record {
  course = record { pool = pool; steps = []; events = [] };
  seats = seats_from 0 players;
  next = first_seat only (length players);
}

-- the first of the ends that holds, where so many steps were taken
pub data EndsBy (c : Configuration) (next : Option ℕ) (taken most : ℕ) : Ended → Type 0 where
  most_reached : taken ≡ most → EndsBy c next taken most MostReached
  no_players : taken ≢ most → next ≡ None → EndsBy c next taken most NoPlayers
  none_ready : {place : ℕ} → taken ≢ most → next ≡ Some place → CountsReady c 0
      → EndsBy c next taken most NoneReady

-- none of them holds: the player at this place is asked, and so many steps are ready
pub record PlayGoesOn (c : Configuration) (next : Option ℕ) (taken most place ready : ℕ) : Type 0 where
  pub more : taken ≢ most
  pub at : next ≡ Some place
  pub counts : CountsReady c ready
  pub some : 0 < ready

-- a player that is asked where so many steps are ready answers so, and this is seen of it after
pub record Picks (old : Seen) (ready : ℕ) (pick : Pick) (new : Seen) : Type 0 where
  pub times : new.times ≡ next_count old.times
  pub way : FollowsWay old.way old.times ready pick new.way

-- the player at this place of the list has this turn, and these are the seats after
pub record AsksSeat (seats : List Seat) (place : ℕ) (turn : TurnOf) (after : List Seat) : Type 0 where
  pub seat : Seat
  pub new : Seen
  pub was : slice_get seats place ≡ Some seat
  pub who : turn.who ≡ seat.who
  pub picks : Picks seat.seen turn.ready turn.pick new
  pub others : after ≡ slice_set seats place (record seat { seen = new })

-- the ready step with this number is done
pub record DoesReady (old : Course) (k : ℕ) (new : Course) : Type 0 where
  pub step : Step
  pub event : Option Event
  pub kth : IsKth old.pool.configuration k step
  pub taken : IsTaken old.pool step event new.pool
  pub steps : new.steps ≡ old.steps ++ step ∷ []
  pub events : new.events ≡ old.events ++ option_to_list event

-- What an answer of the player at this place does: to what was done, to the list of players, in whatever form they are
-- seen, and to the cursor.
abbrev pub DoesTurn : {A : Type 0} → Option ℕ → ℕ → Pick → Course → Course → List A → List A → Option ℕ
    → Type 0
DoesTurn only place (Take k) old new players after next = DoesReady old k new × (after ≡ players)
    × (next ≡ after_take only place (length after))
DoesTurn only place Leave old new players after next = (new ≡ old) × (after ≡ remove players place)
    × (next ≡ after_leave only place (length after))

-- a turn of a play
pub record TakesTurn (only : Option ℕ) (most : ℕ) (old : PlayState) (turn : TurnOf) (new : PlayState)
    : Type 0 where
  pub place : ℕ
  pub seats : List Seat
  pub goes_on : PlayGoesOn old.course.pool.configuration old.next (length old.course.steps) most place
      turn.ready
  pub asks : AsksSeat old.seats place turn seats
  pub does : DoesTurn only place turn.pick old.course new.course seats new.seats new.next

-- a play with these turns leads from a state to another
abbrev pub Plays : Option ℕ → ℕ → PlayState → List TurnOf → PlayState → Type 0
Plays only most old [] new = new ≡ old
Plays only most old (turn ∷ turns) new = (mid : PlayState) × TakesTurn only most old turn mid
    × Plays only most mid turns new
