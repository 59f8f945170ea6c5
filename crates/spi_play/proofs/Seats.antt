-- What is seen of a list of players after one of them was asked or left.
use Rattle.std.proofs.Common.{◌≡◌, ℕ, ◌<◌, List, ◌++◌, Option, Some, map, length, take, drop, get_or, slice_set, ap, sym, ◌∙◌, suc}
use Rattle.std.specs.List.{remove}
use Rattle.std.specs.Option.{option_map}
use Rattle.std.proofs.lemmas.List.{map-set, map-append, take-map, drop-map}
use Rattle.std.proofs.lemmas.Option.{slice_get-map, slice_get-get_or}
use Rattle.spi_play.specs.declared.player.Pick.{Pick}
use Rattle.spi_play.specs.Way.{Way, Seen, seen_of}
use Rattle.spi_play.specs.Play.{Picks}
use Rattle.spi_play.specs.Outcome.{AsksAt}

-- a player in a list was asked
pub asks_at : {B : Type 0} (times : B → ℕ) (way : B → Option Way) (players : List B) (place ready : ℕ) (pick : Pick) (old new : B) → place < length players → old ≡ get_or players place old → Picks (record { times = times old; way = way old }) ready pick (record { times = times new; way = way new }) → AsksAt (seen_of times way players) place ready pick (seen_of times way (slice_set players place new))
asks_at {B} times way players place ready pick old new within is picks =
    let f : B → Seen = λ b. record { times = times b; way = way b } in
    record {
      old = f old;
      new = f new;
      was = slice_get-map f players place ∙ ap (option_map f) (slice_get-get_or players place old within) ∙ ap (λ b. Some (f b)) (sym is);
      picks = picks;
      others = map-set f players place new;
    }

-- a list without one, seen by f
pub map-remove : {A B : Type 0} (f : A → B) (xs : List A) (i : ℕ) → map f (remove xs i) ≡ remove (map f xs) i
map-remove f xs i = map-append f (take i xs) (drop (suc i) xs) ∙ ap (λ ys. ys ++ map f (drop (suc i) xs)) (sym (take-map f i xs)) ∙ ap (λ ys. take i (map f xs) ++ ys) (sym (drop-map f (suc i) xs))
