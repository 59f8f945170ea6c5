-- How a play that stands goes on by a turn.
use Rattle.std.proofs.Common.{◌≡◌, ℕ, ◌+◌, List, [], ◌∷◌, ◌++◌, Option, Some, None, map, length, slice_set, slice_get, refl, ap, sym, ◌∙◌, subst}
use Rattle.std.specs.List.{remove}
use Rattle.std.specs.Option.{option_map}
use Rattle.std.proofs.lemmas.List.{map-set, length-map}
use Rattle.std.proofs.lemmas.Option.{slice_get-map}
use Rattle.spi_run.specs.Reduction.{Configuration}
use Rattle.spi_replay.specs.Stepping.{Pooled}
use Rattle.spi_play.specs.declared.player.Pick.{Pick}
use Rattle.spi_play.specs.declared.player.Pick.TheVariants.{Take, Leave}
use Rattle.spi_play.specs.declared.plays.PlayFault.{PlayFault}
use Rattle.spi_play.specs.declared.plays.Ended.{Ended}
use Rattle.spi_play.specs.Way.{Way, Seen, seen_of}
use Rattle.spi_play.specs.Play.{Seat, PlayState, Course, TurnOf, Picks, seats_from, first_seat, after_take, after_leave, start, PlayGoesOn, EndsBy, AsksSeat, DoesTurn, TakesTurn, Plays}
use Rattle.spi_run.specs.declared.step.Step as steps
use Rattle.spi_run.specs.declared.step.Event as events
use Rattle.spi_play.specs.Outcome.{course, AsksAt, PlayStands, EndsAt, RefusedAt}
use Rattle.spi_play.specs.Turning.{Turned, TurnRefused}
use Rattle.spi_play.proofs.Seats.{map-remove}

pub seats_seen : (i : ℕ) (players : List Seen) → map (λ (seat : Seat). seat.seen) (seats_from i players) ≡ players
seats_seen i [] = refl
seats_seen i (player ∷ players) = ap (λ rest. player ∷ rest) (seats_seen (i + 1) players)

-- a play goes on by a turn
pub plays_more : (only : Option ℕ) (most : ℕ) (old : PlayState) (turns : List TurnOf) (mid : PlayState) (turn : TurnOf) (new : PlayState) → Plays only most old turns mid → TakesTurn only most mid turn new → Plays only most old (turns ++ turn ∷ []) new
plays_more only most old [] mid turn new is goes = (new, (let P : PlayState → Type 0 = λ s. TakesTurn only most s turn new in subst P is goes), refl)
plays_more only most old (first ∷ turns) mid turn new plays goes = (plays.0, plays.1, plays_more only most plays.0 turns mid turn new plays.2 goes)

from_option_map : {A B : Type 0} (f : A → B) (o : Option A) (y : B) → option_map f o ≡ Some y → (x : A) × (o ≡ Some x) × (f x ≡ y)
from_option_map f None y e = absurd (cc)
from_option_map f (Some x) y e = (x, refl, cc)

-- the seats after the player at this place was asked
record AskedOnce (old : List Seat) (place ready : ℕ) (pick : Pick) (players : List Seen) : Type 0 where
  who : ℕ
  seats : List Seat
  asks : AsksSeat old place (record { who = who; ready = ready; pick = pick }) seats
  seen : map (λ (seat : Seat). seat.seen) seats ≡ players

asked : (seats : List Seat) (place ready : ℕ) (pick : Pick) (before players : List Seen) → map (λ (seat : Seat). seat.seen) seats ≡ before → AsksAt before place ready pick players → AskedOnce seats place ready pick players
asked seats place ready pick before players seen asks =
    let f : Seat → Seen = λ seat. seat.seen in
    let found : (seat : Seat) × (slice_get seats place ≡ Some seat) × (seat.seen ≡ asks.old) =
    from_option_map f (slice_get seats place) asks.old (sym (slice_get-map f seats place) ∙ ap (λ xs. slice_get xs place) seen ∙ asks.was) in
    let new : Seat = record { who = found.0.who; seen = asks.new } in
    record {
      who = found.0.who;
      seats = slice_set seats place new;
      asks = record {
        seat = found.0;
        new = asks.new;
        was = found.1;
        who = refl;
        picks = let P : Seen → Type 0 = λ old. Picks old ready pick asks.new in subst P (sym found.2) asks.picks;
        others = refl;
      };
      seen = map-set f seats place new ∙ ap (λ xs. slice_set xs place asks.new) seen ∙ sym asks.others;
    }

-- an answer does to the seats what it does to what is seen of them
record Done (only : Option ℕ) (place : ℕ) (pick : Pick) (old new : Course) (seats : List Seat) (after : List Seen) (next : Option ℕ) : Type 0 where
  left : List Seat
  does : DoesTurn only place pick old new seats left next
  seen : map (λ (seat : Seat). seat.seen) left ≡ after

done_so : (only : Option ℕ) (place : ℕ) (pick : Pick) (old new : Course) (seats : List Seat) (players after : List Seen) (next : Option ℕ) → map (λ (seat : Seat). seat.seen) seats ≡ players → DoesTurn only place pick old new players after next → Done only place pick old new seats after next
done_so only place (Take k) old new seats players after next seen does =
    let f : Seat → Seen = λ seat. seat.seen in
    let same : length after ≡ length seats = ap length (does.1 ∙ sym seen) ∙ length-map seats f in
    record {
      left = seats;
      does = (does.0, refl, does.2 ∙ ap (after_take only place) same);
      seen = seen ∙ sym does.1;
    }
done_so only place Leave old new seats players after next seen does =
    let f : Seat → Seen = λ seat. seat.seen in
    let left : List Seat = remove seats place in
    let kept : map f left ≡ after = map-remove f seats place ∙ ap (λ xs. remove xs place) seen ∙ sym does.1 in
    let same : length after ≡ length left = ap length (sym kept) ∙ length-map left f in
    record {
      left = left;
      does = (does.0, refl, does.2 ∙ ap (after_leave only place) same);
      seen = kept;
    }

pub stands_turn : (only : Option ℕ) (most : ℕ) (first : PlayState) (old new : Course) (before after : List Seen) (next next' : Option ℕ) (place ready : ℕ) → PlayStands only most first old before next → PlayGoesOn old.pool.configuration next (length old.steps) most place ready → Turned only place ready old new before after next' → PlayStands only most first new after next'
stands_turn only most first old new before after next next' place ready stands goes turned =
    let a : AskedOnce stands.seats place ready turned.pick turned.players = asked stands.seats place ready turned.pick before turned.players stands.seen turned.asks in
    let d : Done only place turned.pick old new a.seats after next' = done_so only place turned.pick old new a.seats turned.players after next' a.seen turned.does in
    let turn : TurnOf = record { who = a.who; ready = ready; pick = turned.pick } in
    let here : PlayState = record { course = old; seats = stands.seats; next = next } in
    let then : PlayState = record { course = new; seats = d.left; next = next' } in
    record {
      turns = stands.turns ++ turn ∷ [];
      seats = d.left;
      plays = plays_more only most first stands.turns here turn then stands.plays (record { place = place; seats = a.seats; goes_on = goes; asks = a.asks; does = d.does });
      seen = d.seen;
    }

-- a play over players of any kind stands at its start
pub play_first : {B : Type 0} (times : B → ℕ) (way : B → Option Way) (players : List B) (only : Option ℕ) (most : ℕ) (pool : Pooled) (done : Course) (n : ℕ) (next : Option ℕ) → n ≡ length players → next ≡ first_seat only n → done ≡ record { pool = pool; steps = []; events = [] } → PlayStands only most (start pool (seen_of times way players) only) done (seen_of times way players) next
play_first {B} times way players only most pool done n next count first nothing =
    let see : B → Seen = λ b. record { times = times b; way = way b } in
    let same : n ≡ length (map see players) = count ∙ sym (length-map players see) in
    let P : Course → Option ℕ → Type 0 = λ c o. PlayStands only most (start pool (map see players) only) c (map see players) o in
    let Q : Course → Type 0 = λ c. P c (first_seat only (length (map see players))) in
    let here : PlayStands only most (start pool (map see players) only) (record { pool = pool; steps = []; events = [] }) (map see players) (first_seat only (length (map see players))) = record {
      turns = [];
      seats = seats_from 0 (map see players);
      plays = refl;
      seen = seats_seen 0 (map see players);
    } in
    subst (λ o. P done o) (sym (first ∙ ap (first_seat only) same)) (subst Q (sym nothing) here)

-- nothing was done
pub nothing_done : (pool : Pooled) (ss : List steps.Step) (es : List events.Event) → ss ≡ [] → es ≡ [] → course pool ss es ≡ record { pool = pool; steps = []; events = [] }
nothing_done pool ss es e f =
    let g : List steps.Step → Course = λ xs. course pool xs es in
    let h : List events.Event → Course = λ xs. course pool [] xs in
    ap g e ∙ ap h f

-- the player at this place left
pub turned_leave : {B : Type 0} (times : B → ℕ) (way : B → Option Way) (before : List Seen) (players left : List B) (only : Option ℕ) (place ready n : ℕ) (done : Course) (next : Option ℕ) → AsksAt before place ready Leave (seen_of times way players) → left ≡ remove players place → n ≡ length left → next ≡ after_leave only place n → Turned only place ready done done before (seen_of times way left) next
turned_leave {B} times way before players left only place ready n done next asks gone count then =
    let see : B → Seen = λ b. record { times = times b; way = way b } in
    record {
      pick = Leave;
      players = map see players;
      asks = asks;
      does = (refl, ap (map see) gone ∙ map-remove see players place, then ∙ ap (after_leave only place) (count ∙ sym (length-map left see)));
    }

-- what is said by a number of steps, said by the steps
pub taken_so : (c : Configuration) (next : Option ℕ) (n m most place ready : ℕ) → n ≡ m → PlayGoesOn c next n most place ready → PlayGoesOn c next m most place ready
taken_so c next n m most place ready e goes = let P : ℕ → Type 0 = λ x. PlayGoesOn c next x most place ready in subst P e goes

pub ends_so : (only : Option ℕ) (most : ℕ) (first : PlayState) (done : Course) (players : List Seen) (next : Option ℕ) (n : ℕ) (ended : Ended) → PlayStands only most first done players next → n ≡ length done.steps → EndsBy done.pool.configuration next n most ended → EndsAt only most first done players ended
ends_so only most first done players next n ended stands e end = record {
  next = next;
  stands = stands;
  end = let P : ℕ → Type 0 = λ x. EndsBy done.pool.configuration next x most ended in subst P e end;
}

-- the pick of the player that was asked next is refused
pub refused_so : (only : Option ℕ) (most : ℕ) (first : PlayState) (done : Course) (before players : List Seen) (next : Option ℕ) (n place ready : ℕ) (pool : Pooled) (fault : PlayFault) → PlayStands only most first done before next → n ≡ length done.steps → PlayGoesOn done.pool.configuration next n most place ready → pool ≡ done.pool → TurnRefused done.pool place ready before players fault → RefusedAt only most first pool players fault
refused_so only most first done before players next n place ready pool fault stands e goes same refused =
    let P : Pooled → Type 0 = λ p. RefusedAt only most first p players fault in
    subst P (sym same) (record {
      steps = done.steps;
      events = done.events;
      before = before;
      next = next;
      stands = stands;
      place = place;
      ready = ready;
      goes_on = taken_so done.pool.configuration next n (length done.steps) most place ready e goes;
      picked = refused.picked;
      asks = refused.asks;
      refused = refused.refused;
    })
