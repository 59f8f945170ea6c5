-- Plays are the same where those that may be asked tell their ways.
use Rattle.std.proofs.Common.{◌≡◌, ℕ, ◌<◌, List, [], ◌∷◌, ◌++◌, Option, Some, None, get_or, map, length, slice_set, slice_get, zero, suc, take, drop, refl, ap, sym, ◌∙◌, subst, inl, inr, arith}
use Rattle.std.specs.Prelude.{All, IfSome, IsSome}
use Rattle.std.specs.Option.{option_to_list, option_map}
use Rattle.std.proofs.lemmas.Option.{slice_get_cases, slice_get-map, get_or_from_slice_get}
use Rattle.std.proofs.lemmas.List.Elements.{All-set, All-append, All-take, All-drop}
use Rattle.std.proofs.lemmas.List.{length-map, get_or-map}
use Rattle.spi_run.specs.Reduction.{Configuration, Step}
use Rattle.spi_replay.specs.Stepping.{Pooled, IsTaken}
use Rattle.spi_play.specs.declared.player.Pick.{Pick}
use Rattle.spi_play.specs.declared.player.Pick.TheVariants.{Take, Leave}
use Rattle.spi_play.specs.declared.plays.Ended.{Ended}
use Rattle.spi_play.specs.Way.{Way, Seen, Script, First, Turn, FollowsWay}
use Rattle.spi_play.specs.Play.{Seat, PlayState, Course, TurnOf, Picks, DoesReady, DoesTurn, TakesTurn, Plays, PlayGoesOn, EndsBy, most_reached, no_players, none_ready, seats_from, start, after_take, after_leave}
use Rattle.spi_play.specs.Outcome.{EndsAt, AskedTell, OnlyPlay}
use Rattle.spi_play.proofs.Standing.{seats_seen}
use Rattle.spi_replay.proofs.Taken.{taken_once}
use Rattle.spi_play.proofs.Steps.{counts_once, kth_once}

pub follows_same : (way : Option Way) (times ready : ℕ) (p q : Pick) (v w : Option Way) → IsSome way → FollowsWay way times ready p v → FollowsWay way times ready q w → (p ≡ q) × (v ≡ w)
follows_same None times ready p q v w some a b = absurd (cc)
follows_same (Some (Script [])) times ready p q v w some a b = (a.0 ∙ sym b.0, a.1 ∙ sym b.1)
follows_same (Some (Script (k ∷ script))) times ready p q v w some a b = (a.0 ∙ sym b.0, a.1 ∙ sym b.1)
follows_same (Some First) times ready p q v w some a b = (a.0 ∙ sym b.0, a.1 ∙ sym b.1)
follows_same (Some Turn) times ready p q v w some a b = (a.0 ∙ sym b.0, a.1 ∙ sym b.1)

-- who goes by a told way keeps telling it
pub follows_tells : (way : Option Way) (times ready : ℕ) (p : Pick) (v : Option Way) → IsSome way → FollowsWay way times ready p v → IsSome v
follows_tells None times ready p v some a = absurd (cc)
follows_tells (Some (Script [])) times ready p v some a = rw a.1
follows_tells (Some (Script (k ∷ script))) times ready p v some a = rw a.1
follows_tells (Some First) times ready p v some a = rw a.1
follows_tells (Some Turn) times ready p v some a = rw a.1

pub seen_same : (a b : Seen) → a.times ≡ b.times → a.way ≡ b.way → a ≡ b
seen_same a b times way = λ i. record { times = times i; way = way i }

pub state_same : (a b : PlayState) → a.course ≡ b.course → a.seats ≡ b.seats → a.next ≡ b.next → a ≡ b
state_same a b done seats next = λ i. record { course = done i; seats = seats i; next = next i }

pub course_same : (a b : Course) → a.pool ≡ b.pool → a.steps ≡ b.steps → a.events ≡ b.events → a ≡ b
course_same a b pool steps events = λ i. record { pool = pool i; steps = steps i; events = events i }

pub picks_same : (old : Seen) (ready : ℕ) (p q : Pick) (a b : Seen) → IsSome old.way → Picks old ready p a → Picks old ready q b → (p ≡ q) × (a ≡ b)
picks_same old ready p q a b tells first second =
    let same : (p ≡ q) × (a.way ≡ b.way) = follows_same old.way old.times ready p q a.way b.way tells first.way second.way in
    (same.0, seen_same a b (first.times ∙ sym second.times) same.1)

pub goes_same : (old : Course) (k : ℕ) (m n : Course) → DoesReady old k m → DoesReady old k n → m ≡ n
goes_same old k m n first second =
    let step : second.step ≡ first.step = kth_once second.kth first.kth in
    let P : Step → Type 0 = λ s. IsTaken old.pool s second.event n.pool in
    let taken : IsTaken old.pool first.step second.event n.pool = subst P step second.taken in
    let same : (first.event ≡ second.event) × (m.pool ≡ n.pool) = taken_once first.taken taken in
    course_same m n same.1
    (first.steps ∙ ap (λ x. old.steps ++ x ∷ []) (sym step) ∙ sym second.steps)
    (first.events ∙ ap (λ x. old.events ++ option_to_list x) same.0 ∙ sym second.events)

pub does_same : (only : Option ℕ) (old : PlayState) (place : ℕ) (p : Pick) (seats : List Seat) (m n : PlayState) → DoesTurn only place p old.course m.course seats m.seats m.next → DoesTurn only place p old.course n.course seats n.seats n.next → m ≡ n
does_same only old place (Take k) seats m n first second =
    let after : m.seats ≡ n.seats = first.1 ∙ sym second.1 in
    state_same m n (goes_same old.course k m.course n.course first.0 second.0) after
    (first.2 ∙ ap (λ (xs : List Seat). after_take only place (length xs)) after ∙ sym second.2)
does_same only old place Leave seats m n first second =
    let after : m.seats ≡ n.seats = first.1 ∙ sym second.1 in
    state_same m n (first.0 ∙ sym second.0) after
    (first.2 ∙ ap (λ (xs : List Seat). after_leave only place (length xs)) after ∙ sym second.2)

abbrev TellsSeat : Seat → Type 0
TellsSeat seat = IsSome seat.seen.way

pub all_at : {X : Type 0} (P : X → Type 0) (xs : List X) (i : ℕ) (x : X) → All P xs → slice_get xs i ≡ Some x → P x
all_at P xs i x all is =
    elim (slice_get_cases xs i).1 [
      | inl within ↦ subst P (get_or_from_slice_get xs i x x is) (all i x within.1)
      | inr past ↦ absurd (cc)
    ]

-- who is asked next tells its way, and so in each turn that comes: where all may be asked all tell theirs
abbrev NextTells : PlayState → Type 0
NextTells s = (place : ℕ) (seat : Seat) → s.next ≡ Some place → slice_get s.seats place ≡ Some seat → TellsSeat seat

abbrev AskedTellOn : Option ℕ → PlayState → Type 0
AskedTellOn None s = All TellsSeat s.seats
AskedTellOn (Some only) s = NextTells s

next_tells : (only : Option ℕ) (s : PlayState) → AskedTellOn only s → NextTells s
next_tells None s tell = λ place seat next there. all_at TellsSeat s.seats place seat tell there
next_tells (Some only) s tell = tell

asked_now : (only : Option ℕ) {most : ℕ} {t : TurnOf} {m : PlayState} (old : PlayState) → AskedTellOn only old → (first : TakesTurn only most old t m) → TellsSeat first.asks.seat
asked_now only old tell first = next_tells only old tell first.place first.asks.seat first.goes_on.at first.asks.was

-- where who is asked tells its way, a turn has one outcome
pub turns_same : (only : Option ℕ) (most : ℕ) (old : PlayState) (t u : TurnOf) (m n : PlayState) → (first : TakesTurn only most old t m) → IsSome first.asks.seat.seen.way → TakesTurn only most old u n → m ≡ n
turns_same only most old t u m n first tell second =
    let a = first.asks in
    let b = second.asks in
    let next : Some second.place ≡ Some first.place = sym second.goes_on.at ∙ first.goes_on.at in
    let place : second.place ≡ first.place = cc in
    let ready : u.ready ≡ t.ready = counts_once second.goes_on.counts first.goes_on.counts in
    let there : Some b.seat ≡ Some a.seat = sym b.was ∙ ap (slice_get old.seats) place ∙ a.was in
    let seat : b.seat ≡ a.seat = cc in
    let P : Seat → Type 0 = λ s. Picks s.seen u.ready u.pick b.new in
    let Q : ℕ → Type 0 = λ r. Picks a.seat.seen r u.pick b.new in
    let picks : Picks a.seat.seen t.ready u.pick b.new = subst Q ready (subst P seat b.picks) in
    let same : (u.pick ≡ t.pick) × (b.new ≡ a.new) = picks_same a.seat.seen t.ready u.pick t.pick b.new a.new tell picks a.picks in
    let put : ℕ → Seat → Seen → List Seat = λ p s v. slice_set old.seats p (record { who = s.who; seen = v }) in
    let seats : second.seats ≡ first.seats =
    b.others ∙ ap (λ p. put p b.seat b.new) place ∙ ap (λ s. put first.place s b.new) seat ∙ ap (put first.place a.seat) same.1 ∙ sym a.others in
    let D : ℕ → Type 0 = λ p. DoesTurn only p u.pick old.course n.course second.seats n.seats n.next in
    let E : Pick → Type 0 = λ p. DoesTurn only first.place p old.course n.course second.seats n.seats n.next in
    let F : List Seat → Type 0 = λ s. DoesTurn only first.place t.pick old.course n.course s n.seats n.next in
    does_same only old first.place t.pick first.seats m n first.does (subst F seats (subst E same.0 (subst D place second.does)))

tells_after : (place : ℕ) (p : Pick) (old new : Course) (seats after : List Seat) (next : Option ℕ) → All TellsSeat seats → DoesTurn None place p old new seats after next → All TellsSeat after
tells_after place (Take k) old new seats after next tell does = let P : List Seat → Type 0 = λ s. All TellsSeat s in subst P (sym does.1) tell
tells_after place Leave old new seats after next tell does =
    let P : List Seat → Type 0 = λ s. All TellsSeat s in
    subst P (sym does.1) (All-append TellsSeat (take place seats) (drop (suc place) seats) (All-take TellsSeat place seats tell) (All-drop TellsSeat (suc place) seats tell))

-- the one player that may be asked is the one that was asked, as long as it stays
alone_after : (only place : ℕ) (p : Pick) (old new : Course) (seats after : List Seat) (next : Option ℕ) (seat : Seat) → slice_get seats place ≡ Some seat → TellsSeat seat → DoesTurn (Some only) place p old new seats after next → (i : ℕ) (other : Seat) → next ≡ Some i → slice_get after i ≡ Some other → TellsSeat other
alone_after only place (Take k) old new seats after next seat was tells does i other asks there =
    let e : Some place ≡ Some i = sym does.2 ∙ asks in
    let f : place ≡ i = cc in
    let g : Some other ≡ Some seat = sym there ∙ ap (λ (xs : List Seat). slice_get xs i) does.1 ∙ ap (slice_get seats) (sym f) ∙ was in
    let h : other ≡ seat = cc in
    let P : Seat → Type 0 = λ s. TellsSeat s in
    subst P (sym h) tells
alone_after only place Leave old new seats after next seat was tells does i other asks there = let e : None ≡ Some i = sym does.2 ∙ asks in absurd (cc)

pub got_put : (xs : List Seat) (i : ℕ) (x y : Seat) → slice_get xs i ≡ Some x → slice_get (slice_set xs i y) i ≡ Some y
got_put [] i x y e = absurd (cc)
got_put (z ∷ xs) zero x y e = refl
got_put (z ∷ xs) (suc i) x y e = got_put xs i x y e

-- who is asked tells its way after that
asked_tells : (only : Option ℕ) (most : ℕ) (old : PlayState) (t : TurnOf) (new : PlayState) → NextTells old → (turn : TakesTurn only most old t new) → IsSome turn.asks.new.way
asked_tells only most old t new tell turn =
    let a = turn.asks in
    follows_tells a.seat.seen.way a.seat.seen.times t.ready t.pick a.new.way (tell turn.place a.seat turn.goes_on.at a.was) a.picks.way

tells_kept : (only : Option ℕ) (most : ℕ) (old : PlayState) (t : TurnOf) (new : PlayState) → AskedTellOn only old → TakesTurn only most old t new → AskedTellOn only new
tells_kept None most old t new tell turn =
    let a = turn.asks in
    let tells : IsSome a.new.way = asked_tells None most old t new (next_tells None old tell) turn in
    let P : List Seat → Type 0 = λ s. All TellsSeat s in
    let seats : All TellsSeat turn.seats = subst P (sym a.others) (All-set TellsSeat old.seats turn.place (record { who = a.seat.who; seen = a.new }) tells tell) in
    tells_after turn.place t.pick old.course new.course turn.seats new.seats new.next seats turn.does
tells_kept (Some only) most old t new tell turn =
    let a = turn.asks in
    let tells : IsSome a.new.way = asked_tells (Some only) most old t new tell turn in
    let x : Seat = record { who = a.seat.who; seen = a.new } in
    let there : slice_get turn.seats turn.place ≡ Some x = ap (λ (xs : List Seat). slice_get xs turn.place) a.others ∙ got_put old.seats turn.place a.seat x a.was in
    alone_after only turn.place t.pick old.course new.course turn.seats new.seats new.next x there tells turn.does

-- a play that has ended doesn't go on
pub ended_once : {c : Configuration} {next : Option ℕ} {taken most place ready : ℕ} {e : Ended} → EndsBy c next taken most e → PlayGoesOn c next taken most place ready → ⊥
ended_once (most_reached h) goes = goes.more h
ended_once (no_players m h) goes = let e : None ≡ Some _ = sym h ∙ goes.at in absurd (cc)
ended_once (none_ready m h counts) goes = let e = counts_once counts goes.counts in let some = goes.some in omega (arith, e, some)

abbrev pub HasEnded : ℕ → PlayState → Ended → Type 0
HasEnded most s e = EndsBy s.course.pool.configuration s.next (length s.course.steps) most e

-- two plays from one state that have both ended are one
plays_same : (only : Option ℕ) (most : ℕ) (old : PlayState) (ts us : List TurnOf) (m n : PlayState) (e f : Ended) → AskedTellOn only old → Plays only most old ts m → HasEnded most m e → Plays only most old us n → HasEnded most n f → m ≡ n
plays_same only most old [] [] m n e f tell first first_end second second_end = first ∙ sym second
plays_same only most old [] (u ∷ us) m n e f tell first first_end second second_end =
    let P : PlayState → Type 0 = λ s. HasEnded most s e in
    absurd (ended_once (subst P first first_end) second.1.goes_on)
plays_same only most old (t ∷ ts) [] m n e f tell first first_end second second_end =
    let P : PlayState → Type 0 = λ s. HasEnded most s f in
    absurd (ended_once (subst P second second_end) first.1.goes_on)
plays_same only most old (t ∷ ts) (u ∷ us) m n e f tell first first_end second second_end =
    let same : first.0 ≡ second.0 = turns_same only most old t u first.0 second.0 first.1 (asked_now only old tell first.1) second.1 in
    let P : PlayState → Type 0 = λ s. Plays only most s us n in
    plays_same only most first.0 ts us m n e f (tells_kept only most old t first.0 tell first.1) first.2 first_end (subst P (sym same) second.2) second_end

seats_tell : (i : ℕ) (players : List Seen) → All (λ (player : Seen). IsSome player.way) players → All TellsSeat (seats_from i players)
seats_tell i players tell k d within =
    let f : Seat → Seen = λ seat. seat.seen in
    let seats : List Seat = seats_from i players in
    let same : map f seats ≡ players = seats_seen i players in
    let inside : k < length players = let Q : ℕ → Type 0 = λ n. k < n in subst Q (sym (length-map seats f) ∙ ap length same) within in
    let here : get_or players k (f d) ≡ f (get_or seats k d) = ap (λ (xs : List Seen). get_or xs k (f d)) (sym same) ∙ get_or-map f seats k d (f d) within in
    let P : Seen → Type 0 = λ s. IsSome s.way in
    subst P here (tell k (f d) inside)

asked_tell : (only : Option ℕ) (pool : Pooled) (players : List Seen) → AskedTell only players → AskedTellOn only (start pool players only)
asked_tell None pool players tell = seats_tell 0 players tell
asked_tell (Some place) pool players tell = λ i seat asks there.
    let f : Seat → Seen = λ s. s.seen in
    let e : Some place ≡ Some i = asks in
    let same : place ≡ i = cc in
    let here : slice_get players place ≡ Some seat.seen = ap (slice_get players) same ∙ ap (λ (xs : List Seen). slice_get xs i) (sym (seats_seen 0 players)) ∙ slice_get-map f (seats_from 0 players) i ∙ ap (option_map f) there in
    let P : Option Seen → Type 0 = λ o. IfSome o (λ player. IsSome player.way) in
    subst P here tell

-- a play where those that may be asked tell their ways is the only one
pub only_play : (only : Option ℕ) (most : ℕ) (pool : Pooled) (players last : List Seen) (done : Course) (ended : Ended) → AskedTell only players → EndsAt only most (start pool players only) done last ended → OnlyPlay only most (start pool players only) done.steps
only_play only most pool players last done ended tell ends turns state other plays end =
    let stands = ends.stands in
    let here : PlayState = record { course = done; seats = stands.seats; next = ends.next } in
    ap (λ (s : PlayState). s.course.steps) (plays_same only most (start pool players only) turns stands.turns state here other ended (asked_tell only pool players tell) plays end stands.plays ends.end)

-- and so two of them have the same steps
pub one_end : (only : Option ℕ) (most : ℕ) (pool : Pooled) (players last others : List Seen) (done other : Course) (ended ending : Ended) → AskedTell only players → EndsAt only most (start pool players only) done last ended → EndsAt only most (start pool players only) other others ending → other.steps ≡ done.steps
one_end only most pool players last others done other ended ending tell first second =
    only_play only most pool players last done ended tell first second.stands.turns (record { course = other; seats = second.stands.seats; next = second.next }) ending second.stands.plays second.end
