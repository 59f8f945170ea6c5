-- How the turns of a play fit its players.
use Rattle.std.specs.Prelude.{◌≡◌, ◌⊎◌, ℕ, ◌<◌, ◌==◌, if◌then◌else◌, List, [], ◌∷◌, ⊤}
use Rattle.spi_term.specs.Lists.{At, In}
use Rattle.spi_play.specs.declared.player.Pick.TheVariants.{Leave}
use Rattle.spi_play.specs.Way.{Seen}
use Rattle.spi_play.specs.Play.{Seat, TurnOf, Picks}

-- the turns of the player that had this place at entry
abbrev pub turns_of : ℕ → List TurnOf → List TurnOf
turns_of who [] = []
turns_of who (turn ∷ turns) = if turn.who == who then (turn ∷ turns_of who turns) else turns_of who turns

-- A player that is seen so has these turns: in each it was asked once more, and answered by its way where it told one.
abbrev pub FitsTurns : Seen → List TurnOf → Seen → Type 0
FitsTurns old [] new = new ≡ old
FitsTurns old (turn ∷ turns) new = (mid : Seen) × Picks old turn.ready turn.pick mid × FitsTurns mid turns new

-- the last of the turns is a Leave
abbrev pub EndInLeave : List TurnOf → Type 0
EndInLeave [] = ⊥
EndInLeave (turn ∷ []) = turn.pick ≡ Leave
EndInLeave (turn ∷ other ∷ turns) = EndInLeave (other ∷ turns)

-- the seats are in the order of entry
abbrev pub AreInOrder : List Seat → Type 0
AreInOrder [] = ⊤
AreInOrder (seat ∷ seats) = ((other : Seat) → In other seats → seat.who < other.who) × AreInOrder seats

-- The turns fit these players, of whom these are left in the list. Each player had its turns, and is then in the list or
-- left in the last of them, and nobody else is in the list.
pub record TurnsFit (players : List Seen) (turns : List TurnOf) (left : List Seat) : Type 0 where
  pub each : (who : ℕ) (old : Seen) → At players who old
      → (new : Seen) × FitsTurns old (turns_of who turns) new
      × (In (record { who = who; seen = new }) left ⊎ EndInLeave (turns_of who turns))
  pub stays : (seat : Seat) → In seat left
      → (old : Seen) × At players seat.who old × FitsTurns old (turns_of seat.who turns) seat.seen
  pub ordered : AreInOrder left
