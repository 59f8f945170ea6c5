-- What a pool's state stands for.
use Rattle.std.specs.Prelude.{◌≡◌, ℕ, ◌+◌, ◌-◌, ◌^◌, ◌<◌, ◌≤◌, Bool, true, false, List, map, length, Some, slice_get}
use Rattle.spi_term.specs.Term.{Message}
use Rattle.spi_run.specs.Reduction.{Configuration, Acts}
use Rattle.spi_replay.specs.Stepping.{Pooled, event_in, message_most}
use Rattle.spi_replay.specs.declared.names.Link.{Link}
use Rattle.spi_replay.specs.declared.places.Place.{Place}
use Rattle.spi_replay.specs.Indexed.{place_listed}
use Rattle.spi_replay.specs.declared.waits.Meeting.{Meeting}
use Rattle.spi_replay.specs.declared.acting.Taken.{Taken}
use Rattle.spi_replay.specs.declared.running.State.{State}
use Rattle.spi_replay.specs.Holding.{place_process}
use Rattle.spi_replay.specs.Waiting.{wait_acts, wait_appends, wait_largest, met_by}
use Rattle.spi_replay.specs.Standing.{IsPlace, ArePlaces, processes}
use Rattle.spi_term.specs.Term.{message_size}
use Rattle.spi_term.specs.Spelling.{stopped}
use Rattle.spi_intern.specs.Messages.{message_at}

abbrev pub configuration_of : List Message → List Link → List Place → ℕ → Configuration
configuration_of ms ls ps n = record { names = n; places = processes ms ls ps }

abbrev pub pool_of : List Message → List Link → List Place → ℕ → ℕ → Pooled
pool_of ms ls ps n most = record { configuration = configuration_of ms ls ps n; most = most }

abbrev pub pooled : State → Pooled
pooled s = pool_of s.store.messages s.links.items s.index.places.items s.names s.most

-- what holds of every state
pub record IsState (s : State) : Type 0 where
  pub places : ArePlaces s.store.messages s.links.items s.index.places.items
  pub few : length s.index.places.items ≤ s.most
  pub most : s.most < 2 ^ 32 - 1

-- what an act gives, where n names are used: what its place is then, and what is appended
pub record TakenBy (old : List Message) (ls : List Link) (new : List Message) (ls' : List Link) (n : ℕ)
    (p : Place) (t : Taken) : Type 0 where
  pub acts : Acts n (place_process old ls p) (event_in t.event) t.names (place_process new ls' t.now)
      (map (place_process new ls') (place_listed t.more))
  pub now : IsPlace new ls' t.now
  pub more : (q : Place) → t.more ≡ Some q → IsPlace new ls' q

-- the place acts alone, within the limits
pub record MayAct (s : State) (i : ℕ) : Type 0 where
  pub place : Place
  pub there : slice_get s.index.places.items i ≡ Some place
  pub acts : wait_acts place.wait ≡ true
  pub small : wait_largest s.store.messages place.wait ≤ message_most
  pub few : length s.index.places.items + wait_appends place.wait ≤ s.most

abbrev pub again_appends : Bool → ℕ
again_appends true = 1
again_appends false = 0

-- the two places meet, within the limits
pub record MayTalk (s : State) (i j : ℕ) (m : Meeting) : Type 0 where
  pub out : Place
  pub inp : Place
  pub out_there : slice_get s.index.places.items i ≡ Some out
  pub inp_there : slice_get s.index.places.items j ≡ Some inp
  pub meet : met_by out.wait inp.wait ≡ Some m
  pub small : stopped (message_size (message_at s.store.messages m.datum)) ≤ message_most
  pub few : length s.index.places.items + again_appends m.again ≤ s.most
