-- Places by the channels that they wait on.
use Rattle.std.specs.Prelude.{◌≡◌, ℕ, suc, Bool, true, false, ◌==◌, if◌then◌else◌, List, [], ◌∷◌, ◌++◌, map, slice_set, Option, Some, None}
use Rattle.std.specs.Global.{Vec}
use Rattle.spi_replay.specs.declared.places.Place.{Place}
use Rattle.spi_replay.specs.declared.waits.Wait.{Wait}
use Rattle.spi_replay.specs.declared.waits.Wait.TheVariants.{Stays, Puts, Takes, TakesAgain}

-- the number of the channel that is put out on, and of the one that is taken in on
abbrev pub out_channel : Wait → Option ℕ
out_channel (Puts c d) = Some c.place
out_channel w = None

abbrev pub in_channel : Wait → Option ℕ
in_channel (Takes c b) = Some c.place
in_channel (TakesAgain c b) = Some c.place
in_channel w = None

abbrev pub is_on : ℕ → Option ℕ → Bool
is_on c None = false
is_on c (Some d) = c == d

-- the places whose channel has this number, ascending, in a list that begins with place i
abbrev pub places_on : (Wait → Option ℕ) → ℕ → ℕ → List Wait → List ℕ
places_on f c i [] = []
places_on f c i (w ∷ ws) = if is_on c (f w) then i ∷ places_on f c (suc i) ws else places_on f c (suc i) ws

abbrev pub waits_of : List Place → List Wait
waits_of ps = map (λ p. p.wait) ps

-- the list of a channel, empty where it has none
abbrev pub or_none : Option (Vec ℕ) → List ℕ
or_none None = []
or_none (Some v) = v.items

-- a table has the places of each channel
abbrev pub HasPlaces : (Wait → Option ℕ) → (ℕ → Option (Vec ℕ)) → List Place → Type 0
HasPlaces f t ps = (c : ℕ) → or_none (t c) ≡ places_on f c 0 (waits_of ps)

abbrev pub place_listed : Option Place → List Place
place_listed None = []
place_listed (Some p) = p ∷ []

abbrev pub place_done : Place → Place
place_done p = record p { done = true; wait = Stays }

-- the places after an act, and after a meeting
abbrev pub places_moved : List Place → ℕ → Place → Option Place → List Place
places_moved ps i p more = slice_set ps i p ++ place_listed more

abbrev pub places_settled : List Place → ℕ → Place → ℕ → Place → Bool → List Place
places_settled ps i out j now true = slice_set ps i (place_done out) ++ now ∷ []
places_settled ps i out j now false = slice_set (slice_set ps i (place_done out)) j now
