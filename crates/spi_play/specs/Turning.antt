-- What one turn does, as the program sees it.
use Rattle.std.specs.Prelude.{◌≡◌, ℕ, List, Option}
use Rattle.spi_run.specs.Reduction.{Configuration}
use Rattle.spi_replay.specs.declared.fault.StepFault.{StepFault}
use Rattle.spi_replay.specs.declared.fault.StepFault.TheVariants as refused
use Rattle.spi_replay.specs.Stepping.{Pooled}
use Rattle.spi_play.specs.declared.player.Pick.{Pick}
use Rattle.spi_play.specs.declared.player.Pick.TheVariants.{Take}
use Rattle.spi_play.specs.declared.plays.PlayFault.{PlayFault}
use Rattle.spi_play.specs.declared.plays.PlayFault.TheVariants.{RunMessageTooLarge, TooManyPlaces, NoMemory}
use Rattle.spi_play.specs.declared.turns.Ahead.{Ahead}
use Rattle.spi_play.specs.declared.turns.Ahead.TheVariants.{Asks, Ends}
use Rattle.spi_play.specs.Way.{Seen}
use Rattle.spi_play.specs.Play.{Course, EndsBy, PlayGoesOn, DoesTurn}
use Rattle.spi_play.specs.Outcome.{AsksAt, IsPickRefused}

-- what comes next in a play
abbrev pub LiesAhead : Configuration → Option ℕ → ℕ → ℕ → Ahead → Type 0
LiesAhead c next taken most (Asks place ready) = PlayGoesOn c next taken most place ready
LiesAhead c next taken most (Ends ended) = EndsBy c next taken most ended

-- what a step that is ready is refused for
abbrev pub IsFaultOf : StepFault → PlayFault → Type 0
IsFaultOf (refused.NoPlace place) fault = ⊥
IsFaultOf (refused.NotReady place) fault = ⊥
IsFaultOf (refused.RunMessageTooLarge nodes) fault = fault ≡ RunMessageTooLarge nodes
IsFaultOf (refused.TooManyPlaces places) fault = fault ≡ TooManyPlaces places
IsFaultOf refused.NoMemory fault = fault ≡ NoMemory

abbrev pub IsLate : StepFault → Type 0
IsLate fault = (other : PlayFault) × IsFaultOf fault other

-- the player at this place has a turn
pub record Turned (only : Option ℕ) (place ready : ℕ) (old new : Course) (before after : List Seen)
    (next : Option ℕ) : Type 0 where
  pub pick : Pick
  pub players : List Seen
  pub asks : AsksAt before place ready pick players
  pub does : DoesTurn only place pick old new players after next

-- the player at this place was asked, and what it picked is refused so
pub record TurnRefused (pool : Pooled) (place ready : ℕ) (before after : List Seen) (fault : PlayFault) : Type
    0 where
  pub picked : ℕ
  pub asks : AsksAt before place ready (Take picked) after
  pub refused : IsPickRefused pool place ready picked fault
