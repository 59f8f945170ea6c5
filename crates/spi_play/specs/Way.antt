-- How a player picks, where it tells that.
use Rattle.std.specs.Prelude.{◌≡◌, ℕ, ◌+◌, ◌-◌, ◌^◌, ◌%◌, min, List, [], ◌∷◌, map, Some, None, ⊤}
use Rattle.std.specs.declared.option.Option.{Option}
use Rattle.spi_play.specs.declared.player.Pick.{Pick}
use Rattle.spi_play.specs.declared.player.Pick.TheVariants.{Take, Leave}

-- by a script, after which it leaves; always the first ready step; or the ready steps in turn
pub data Way : Type 0 where
  Script : List ℕ → Way
  First : Way
  Turn : Way

-- what is seen of a player: how often it was asked, and its way, where it tells one
pub record Seen : Type 0 where
  pub times : ℕ
  pub way : Option Way

-- what is seen of players, whatever a player is
abbrev pub seen_of : {B : Type 0} → (B → ℕ) → (B → Option Way) → List B → List Seen
seen_of times way players = map (λ b. record { times = times b; way = way b }) players

-- one more, up to u64's greatest value
abbrev pub next_count : ℕ → ℕ
next_count n = min (n + 1) (2 ^ 64 - 1)

-- A player of this way, asked so often before, gives this answer where so many steps are ready, and is of that way after.
abbrev pub FollowsWay : Option Way → ℕ → ℕ → Pick → Option Way → Type 0
FollowsWay None times ready pick after = ⊤
FollowsWay (Some (Script [])) times ready pick after = (pick ≡ Leave) × (after ≡ Some (Script []))
FollowsWay (Some (Script (k ∷ script))) times ready pick after = (pick ≡ Take k)
    × (after ≡ Some (Script script))
FollowsWay (Some First) times ready pick after = (pick ≡ Take 0) × (after ≡ Some First)
FollowsWay (Some Turn) times ready pick after = (pick ≡ Take (times % ready)) × (after ≡ Some Turn)
