-- A play in which all that were asked had told their ways before is the only one.
use Rattle.std.proofs.Common.{◌≡◌, ◌≢◌, ℕ, ◌+◌, ◌<◌, ◌≤◌, List, [], ◌∷◌, Option, Some, None, map, length, slice_get, zero, suc, take, drop, refl, ap, sym, ◌∙◌, subst, inl, inr, arith}
use Rattle.std.specs.Prelude.{All, IfSome, IsSome}
use Rattle.std.specs.Option.{option_map}
use Rattle.std.proofs.lemmas.Option.{slice_get_cases, slice_get-map}
use Rattle.std.proofs.lemmas.List.Elements.{All-nil, All-cons, All-set, All-append, All-take, All-drop}
use Rattle.spi_term.specs.Lists.{In, in_first, in_later}
use Rattle.spi_run.specs.Reduction.{Configuration, Step}
use Rattle.spi_run.proofs.Once.{takes_once}
use Rattle.spi_replay.specs.declared.fault.StepFault.TheVariants as refused
use Rattle.spi_replay.specs.Stepping.{Pooled, RefusesPoolStep, bound_by, largest, too_large, too_many}
use Rattle.spi_term.specs.Spelling.{stopped}
use Rattle.spi_play.specs.declared.player.Pick.{Pick}
use Rattle.spi_play.specs.declared.player.Pick.TheVariants.{Take, Leave}
use Rattle.spi_play.specs.declared.plays.Ended.{Ended}
use Rattle.spi_play.specs.declared.plays.PlayFault.{PlayFault}
use Rattle.spi_play.specs.declared.plays.PlayFault.TheVariants.{BadPick, RunMessageTooLarge, TooManyPlaces, NoMemory as OutOfMemory}
use Rattle.spi_play.specs.Way.{Seen}
use Rattle.spi_play.specs.Play.{Seat, PlayState, Course, TurnOf, IsKth, CountsReady, Picks, DoesReady, DoesTurn, TakesTurn, Plays, PlayGoesOn, seats_from, start}
use Rattle.spi_play.specs.Outcome.{IsPickRefused, AskedTell}
use Rattle.spi_play.proofs.Same.{got_put, ended_once, HasEnded, all_at, follows_tells, picks_same, turns_same}
use Rattle.spi_play.proofs.Steps.{counts_once, kth_once}
use Rattle.spi_replay.proofs.Taken.{taken_never}
use Rattle.spi_commands.specs.Playing.{AskedTold}

-- ---- who told before the play tells in it

abbrev pub HasTold : List Seen → ℕ → Type 0
HasTold before who = IfSome (slice_get before who) (λ player. IsSome player.way)

abbrev pub KeepsTelling : List Seen → Seat → Type 0
KeepsTelling before seat = HasTold before seat.who → IsSome seat.seen.way

seats_keep : (before : List Seen) (i : ℕ) (rest : List Seen) → ((k : ℕ) → slice_get before (i + k) ≡ slice_get rest k) → All (KeepsTelling before) (seats_from i rest)
seats_keep before i [] agree = All-nil (KeepsTelling before)
seats_keep before i (x ∷ rest) agree =
    All-cons (KeepsTelling before) (record { who = i; seen = x }) (seats_from (i + 1) rest) here
    (seats_keep before (i + 1) rest (λ k. (let e : i + 1 + k ≡ i + suc k = omega arith in ap (slice_get before) e) ∙ agree (suc k)))
  where
    at : slice_get before i ≡ Some x
    at = (let e : i ≡ i + 0 = omega arith in ap (slice_get before) e) ∙ agree 0

    here : HasTold before i → IsSome x.way
    here told = subst (λ (o : Option Seen). IfSome o (λ player. IsSome player.way)) at told

start_keeps : (before : List Seen) → All (KeepsTelling before) (seats_from 0 before)
start_keeps before = seats_keep before 0 before (λ k. let e : 0 + k ≡ k = omega arith in ap (slice_get before) e)

seats_after : (P : Seat → Type 0) (only : Option ℕ) (place : ℕ) (p : Pick) (old new : Course) (seats after : List Seat) (next : Option ℕ) → All P seats → DoesTurn only place p old new seats after next → All P after
seats_after P only place (Take k) old new seats after next all does = subst (λ (s : List Seat). All P s) (sym does.1) all
seats_after P only place Leave old new seats after next all does =
    subst (λ (s : List Seat). All P s) (sym does.1) (All-append P (take place seats) (drop (suc place) seats) (All-take P place seats all) (All-drop P (suc place) seats all))

turn_keeps : (before : List Seen) (only : Option ℕ) (most : ℕ) (old : PlayState) (t : TurnOf) (new : PlayState) → All (KeepsTelling before) old.seats → TakesTurn only most old t new → All (KeepsTelling before) new.seats
turn_keeps before only most old t new all turn =
    let a = turn.asks in
    let tells : HasTold before a.seat.who → IsSome a.new.way = λ told. follows_tells a.seat.seen.way a.seat.seen.times t.ready t.pick a.new.way (all_at (KeepsTelling before) old.seats turn.place a.seat all a.was told) a.picks.way in
    let put : All (KeepsTelling before) turn.seats = subst (λ (s : List Seat). All (KeepsTelling before) s) (sym a.others) (All-set (KeepsTelling before) old.seats turn.place (record { who = a.seat.who; seen = a.new }) tells all) in
    seats_after (KeepsTelling before) only turn.place t.pick old.course new.course turn.seats new.seats new.next put turn.does

turn_tells : (before : List Seen) (only : Option ℕ) (most : ℕ) (old : PlayState) (t : TurnOf) (new : PlayState) → All (KeepsTelling before) old.seats → (turn : TakesTurn only most old t new) → HasTold before t.who → IsSome turn.asks.seat.seen.way
turn_tells before only most old t new all turn told =
    let a = turn.asks in
    all_at (KeepsTelling before) old.seats turn.place a.seat all a.was (subst (HasTold before) a.who told)

-- ---- where a play comes to its end

-- no turn goes on from here, or none of a player that tells its way
abbrev Halts : Option ℕ → ℕ → PlayState → Type 0
Halts only most s = (t : TurnOf) (new : PlayState) → TakesTurn only most s t new → ⊥

abbrev HaltsTold : Option ℕ → ℕ → PlayState → Type 0
HaltsTold only most s = (t : TurnOf) (new : PlayState) → (turn : TakesTurn only most s t new) → IsSome turn.asks.seat.seen.way → ⊥

same_end : (before : List Seen) (only : Option ℕ) (most : ℕ) (s : PlayState) (ts us : List TurnOf) (m n : PlayState) → All (KeepsTelling before) s.seats → AskedTold before ts → Plays only most s ts m → Plays only most s us n → Halts only most m → HaltsTold only most n → m ≡ n
same_end before only most s [] [] m n all told first second halts stops = first ∙ sym second
same_end before only most s [] (u ∷ us) m n all told first second halts stops = absurd (subst (Halts only most) first halts u second.0 second.1)
same_end before only most s (t ∷ ts) [] m n all told first second halts stops =
    absurd (subst (HaltsTold only most) second stops t first.0 first.1 (turn_tells before only most s t first.0 all first.1 (told t in_first)))
same_end before only most s (t ∷ ts) (u ∷ us) m n all told first second halts stops =
    let same : first.0 ≡ second.0 = turns_same only most s t u first.0 second.0 first.1 (turn_tells before only most s t first.0 all first.1 (told t in_first)) second.1 in
    same_end before only most first.0 ts us m n (turn_keeps before only most s t first.0 all first.1) (λ turn i. told turn (in_later i)) first.2
    (subst (λ (x : PlayState). Plays only most x us n) (sym same) second.2) halts stops

-- a pick that is refused isn't done
kth_inside : {c : Configuration} {ready k : ℕ} {s : Step} → CountsReady c ready → IsKth c k s → k < ready
kth_inside {c} {ready} {k} {s} counts (ss, are, is) =
    let same : ready ≡ length ss = counts_once counts (ss, are, refl) in
    elim (slice_get_cases ss k).1 [
      | inl within ↦ (let w = within.1 in omega (arith, same, w))
      | inr past ↦ absurd (cc)
    ]

refused_never : (old new : Course) (place ready k : ℕ) (fault : PlayFault) → fault ≢ OutOfMemory → CountsReady old.pool.configuration ready → DoesReady old k new → IsPickRefused old.pool place ready k fault → ⊥
refused_never old new place ready k (BadPick p picked count) some counts goes (a, b, c, l) = let w = kth_inside counts goes.kth in omega (arith, l, w)
refused_never old new place ready k (RunMessageTooLarge nodes) some counts goes r =
    taken_never goes.taken (subst (λ (s : Step). RefusesPoolStep old.pool.configuration old.pool.most s (refused.RunMessageTooLarge nodes)) (kth_once r.kth goes.kth) r.refuses)
refused_never old new place ready k (TooManyPlaces places) some counts goes r =
    taken_never goes.taken (subst (λ (s : Step). RefusesPoolStep old.pool.configuration old.pool.most s (refused.TooManyPlaces places)) (kth_once r.kth goes.kth) r.refuses)
refused_never old new place ready k OutOfMemory some counts goes r = some refl

-- ---- a pick that was refused

-- a play stands here, and a pick is refused so
pub record PlayStopsAt (only : Option ℕ) (most : ℕ) (s : PlayState) (fault : PlayFault) : Type 0 where
  pub place : ℕ
  pub ready : ℕ
  pub picked : ℕ
  pub old : Seen
  pub new : Seen
  pub goes_on : PlayGoesOn s.course.pool.configuration s.next (length s.course.steps) most place ready
  pub was : slice_get (map (λ seat. seat.seen) s.seats) place ≡ Some old
  pub picks : Picks old ready (Take picked) new
  pub refused : IsPickRefused s.course.pool place ready picked fault

-- who was asked is the one whose turn it would be
asked_is : (only : Option ℕ) (most : ℕ) (s : PlayState) (fault : PlayFault) (stop : PlayStopsAt only most s fault) (t : TurnOf) (new : PlayState) → (turn : TakesTurn only most s t new) → (turn.place ≡ stop.place) × (t.ready ≡ stop.ready) × (turn.asks.seat.seen ≡ stop.old)
asked_is only most s fault stop t new turn =
    let f : Seat → Seen = λ seat. seat.seen in
    let e : Some turn.place ≡ Some stop.place = sym turn.goes_on.at ∙ stop.goes_on.at in
    let place : turn.place ≡ stop.place = cc in
    let seen : Some turn.asks.seat.seen ≡ Some stop.old =
    sym (ap (option_map f) turn.asks.was) ∙ sym (slice_get-map f s.seats turn.place) ∙ ap (slice_get (map f s.seats)) place ∙ stop.was in
    (place, counts_once turn.goes_on.counts stop.goes_on.counts, (let g = seen in cc))

stuck : (only : Option ℕ) (most : ℕ) (s : PlayState) (fault : PlayFault) (stop : PlayStopsAt only most s fault) → fault ≢ OutOfMemory → IsSome stop.old.way → Halts only most s
stuck only most s fault stop some tells t new turn =
    let (place, ready, seen) = asked_is only most s fault stop t new turn in
    let a = turn.asks in
    let picks : Picks stop.old stop.ready t.pick a.new = subst (λ (r : ℕ). Picks stop.old r t.pick a.new) ready (subst (λ (x : Seen). Picks x t.ready t.pick a.new) seen a.picks) in
    let same : (t.pick ≡ Take stop.picked) × (a.new ≡ stop.new) = picks_same stop.old stop.ready t.pick (Take stop.picked) a.new stop.new tells picks stop.picks in
    let does : DoesTurn only turn.place (Take stop.picked) s.course new.course turn.seats new.seats new.next = subst (λ (p : Pick). DoesTurn only turn.place p s.course new.course turn.seats new.seats new.next) same.0 turn.does in
    refused_never s.course new.course stop.place stop.ready stop.picked fault some stop.goes_on.counts does.0 stop.refused

stuck_told : (only : Option ℕ) (most : ℕ) (s : PlayState) (fault : PlayFault) (stop : PlayStopsAt only most s fault) → fault ≢ OutOfMemory → HaltsTold only most s
stuck_told only most s fault stop some t new turn tells =
    stuck only most s fault stop some (subst (λ (x : Seen). IsSome x.way) (asked_is only most s fault stop t new turn).2 tells) t new turn

-- it's refused in one way
large_once : {c : Configuration} {most : ℕ} {s : Step} {nodes : ℕ} → RefusesPoolStep c most s (refused.RunMessageTooLarge nodes) → (nodes ≡ stopped (largest (bound_by c s))) × (1000 < largest (bound_by c s))
large_once (too_large ready large) = (refl, large)

many_once : {c : Configuration} {most : ℕ} {s : Step} {n k : ℕ} → RefusesPoolStep c most s (refused.TooManyPlaces n) → RefusesPoolStep c most s (refused.TooManyPlaces k) → n ≡ k
many_once (too_many t small many) (too_many u low more) = ap (λ (c : Configuration). length c.places) (takes_once t u).1

many_small : {c : Configuration} {most : ℕ} {s : Step} {n : ℕ} → RefusesPoolStep c most s (refused.TooManyPlaces n) → largest (bound_by c s) ≤ 1000
many_small (too_many t small many) = small

-- the same step is refused
refuses_kth : (pool : Pooled) (k : ℕ) (P : Step → Type 0) (s t : Step) → IsKth pool.configuration k s → IsKth pool.configuration k t → P t → P s
refuses_kth pool k P s t a b h = subst P (kth_once b a) h

one_fault : (pool : Pooled) (place ready k : ℕ) (f g : PlayFault) → CountsReady pool.configuration ready → f ≢ OutOfMemory → g ≢ OutOfMemory → IsPickRefused pool place ready k f → IsPickRefused pool place ready k g → f ≡ g
one_fault pool place ready k OutOfMemory g counts some other a b = absurd (some refl)
one_fault pool place ready k f OutOfMemory counts some other a b = absurd (other refl)
one_fault pool place ready k (BadPick p q r) (BadPick x y z) counts some other (a, b, c, l) (d, e, f, m) =
    ap (λ (n : ℕ). BadPick n q r) (a ∙ sym d) ∙ ap (λ (n : ℕ). BadPick x n r) (b ∙ sym e) ∙ ap (λ (n : ℕ). BadPick x y n) (c ∙ sym f)
one_fault pool place ready k (BadPick p q r) (RunMessageTooLarge n) counts some other (a, b, c, l) h = let w = kth_inside counts h.kth in absurd (omega (arith, l, w))
one_fault pool place ready k (BadPick p q r) (TooManyPlaces n) counts some other (a, b, c, l) h = let w = kth_inside counts h.kth in absurd (omega (arith, l, w))
one_fault pool place ready k (RunMessageTooLarge n) (BadPick p q r) counts some other h (a, b, c, l) = let w = kth_inside counts h.kth in absurd (omega (arith, l, w))
one_fault pool place ready k (TooManyPlaces n) (BadPick p q r) counts some other h (a, b, c, l) = let w = kth_inside counts h.kth in absurd (omega (arith, l, w))
one_fault pool place ready k (RunMessageTooLarge n) (RunMessageTooLarge m) counts some other a b =
    let there : RefusesPoolStep pool.configuration pool.most a.step (refused.RunMessageTooLarge m) = refuses_kth pool k (λ s. RefusesPoolStep pool.configuration pool.most s (refused.RunMessageTooLarge m)) a.step b.step a.kth b.kth b.refuses in
    ap RunMessageTooLarge ((large_once a.refuses).0 ∙ sym (large_once there).0)
one_fault pool place ready k (TooManyPlaces n) (TooManyPlaces m) counts some other a b =
    let there : RefusesPoolStep pool.configuration pool.most a.step (refused.TooManyPlaces m) = refuses_kth pool k (λ s. RefusesPoolStep pool.configuration pool.most s (refused.TooManyPlaces m)) a.step b.step a.kth b.kth b.refuses in
    ap TooManyPlaces (many_once a.refuses there)
one_fault pool place ready k (RunMessageTooLarge n) (TooManyPlaces m) counts some other a b =
    let there : RefusesPoolStep pool.configuration pool.most a.step (refused.TooManyPlaces m) = refuses_kth pool k (λ s. RefusesPoolStep pool.configuration pool.most s (refused.TooManyPlaces m)) a.step b.step a.kth b.kth b.refuses in
    let large = (large_once a.refuses).1 in
    let small = many_small there in
    absurd (omega (arith, large, small))
one_fault pool place ready k (TooManyPlaces n) (RunMessageTooLarge m) counts some other a b =
    let there : RefusesPoolStep pool.configuration pool.most a.step (refused.RunMessageTooLarge m) = refuses_kth pool k (λ s. RefusesPoolStep pool.configuration pool.most s (refused.RunMessageTooLarge m)) a.step b.step a.kth b.kth b.refuses in
    let large = (large_once there).1 in
    let small = many_small a.refuses in
    absurd (omega (arith, large, small))

same_fault : (only : Option ℕ) (most : ℕ) (s : PlayState) (f g : PlayFault) (a : PlayStopsAt only most s f) → PlayStopsAt only most s g → IsSome a.old.way → f ≢ OutOfMemory → g ≢ OutOfMemory → f ≡ g
same_fault only most s f g a b tells some other =
    let e : Some b.place ≡ Some a.place = sym b.goes_on.at ∙ a.goes_on.at in
    let place : b.place ≡ a.place = cc in
    let ready : b.ready ≡ a.ready = counts_once b.goes_on.counts a.goes_on.counts in
    let there : Some b.old ≡ Some a.old = sym b.was ∙ ap (slice_get (map (λ (seat : Seat). seat.seen) s.seats)) place ∙ a.was in
    let old : b.old ≡ a.old = cc in
    let picks : Picks a.old a.ready (Take b.picked) b.new = subst (λ (r : ℕ). Picks a.old r (Take b.picked) b.new) ready (subst (λ (x : Seen). Picks x b.ready (Take b.picked) b.new) old b.picks) in
    let same : (Take b.picked ≡ Take a.picked) × (b.new ≡ a.new) = picks_same a.old a.ready (Take b.picked) (Take a.picked) b.new a.new tells picks a.picks in
    let h = same.0 in
    let picked : b.picked ≡ a.picked = cc in
    let at : IsPickRefused s.course.pool a.place b.ready b.picked g = subst (λ (p : ℕ). IsPickRefused s.course.pool p b.ready b.picked g) place b.refused in
    let so : IsPickRefused s.course.pool a.place a.ready b.picked g = subst (λ (r : ℕ). IsPickRefused s.course.pool a.place r b.picked g) ready at in
    let there : IsPickRefused s.course.pool a.place a.ready a.picked g = subst (λ (k : ℕ). IsPickRefused s.course.pool a.place a.ready k g) picked so in
    one_fault s.course.pool a.place a.ready a.picked f g a.goes_on.counts some other a.refused there

-- ---- two plays of a pool

module _ (before : List Seen) (only : Option ℕ) (most : ℕ) (pool : Pooled) (ts us : List TurnOf) (m n : PlayState) (told : AskedTold before ts)
    (first : Plays only most (start pool before only) ts m) (second : Plays only most (start pool before only) us n) where
  one_state : Halts only most m → HaltsTold only most n → m ≡ n
  one_state halts stops = same_end before only most (start pool before only) ts us m n (start_keeps before) told first second halts stops

  pub ended_both : (e f : Ended) → HasEnded most m e → HasEnded most n f → n.course.steps ≡ m.course.steps
  ended_both e f end other =
      ap (λ (s : PlayState). s.course.steps) (sym (one_state (λ t new turn. ended_once end turn.goes_on) (λ t new turn tells. ended_once other turn.goes_on)))

  pub ended_stopped : (e : Ended) (fault : PlayFault) → HasEnded most m e → PlayStopsAt only most n fault → fault ≢ OutOfMemory → ⊥
  ended_stopped e fault end stop some =
      let same : m ≡ n = one_state (λ t new turn. ended_once end turn.goes_on) (stuck_told only most n fault stop some) in
      ended_once (subst (λ (s : PlayState). HasEnded most s e) same end) stop.goes_on

  pub stopped_ended : (fault : PlayFault) (f : Ended) (stop : PlayStopsAt only most m fault) → fault ≢ OutOfMemory → IsSome stop.old.way → HasEnded most n f → ⊥
  stopped_ended fault f stop some tells end =
      let same : m ≡ n = one_state (stuck only most m fault stop some tells) (λ t new turn told. ended_once end turn.goes_on) in
      ended_once (subst (λ (s : PlayState). HasEnded most s f) (sym same) end) stop.goes_on

  pub stopped_both : (f g : PlayFault) (stop : PlayStopsAt only most m f) → f ≢ OutOfMemory → g ≢ OutOfMemory → IsSome stop.old.way → PlayStopsAt only most n g → f ≡ g
  stopped_both f g stop some other tells that =
      let same : m ≡ n = one_state (stuck only most m f stop some tells) (stuck_told only most n g that other) in
      same_fault only most m f g stop (subst (λ (s : PlayState). PlayStopsAt only most s g) (sym same) that) tells some other

-- ---- those that may be asked are told, and nobody else is asked

abbrev IsOnly : ℕ → PlayState → Type 0
IsOnly only s = (place : ℕ) (seat : Seat) → s.next ≡ Some place → slice_get s.seats place ≡ Some seat → seat.who ≡ only

seats_who : (i k : ℕ) (players : List Seen) (seat : Seat) → slice_get (seats_from i players) k ≡ Some seat → seat.who ≡ i + k
seats_who i k [] seat is = absurd (cc)
seats_who i zero (x ∷ players) seat is = let e : seat ≡ record { who = i; seen = x } = cc in ap (λ (s : Seat). s.who) e ∙ (let z : i ≡ i + 0 = omega arith in z)
seats_who i (suc k) (x ∷ players) seat is = seats_who (i + 1) k players seat is ∙ (let z : i + 1 + k ≡ i + suc k = omega arith in z)

only_after : (only place : ℕ) (p : Pick) (old new : Course) (seats after : List Seat) (next : Option ℕ) (seat : Seat) → slice_get seats place ≡ Some seat → seat.who ≡ only → DoesTurn (Some only) place p old new seats after next → (i : ℕ) (other : Seat) → next ≡ Some i → slice_get after i ≡ Some other → other.who ≡ only
only_after only place (Take k) old new seats after next seat was who does i other asks there =
    let e : Some place ≡ Some i = sym does.2 ∙ asks in
    let f : place ≡ i = cc in
    let g : Some other ≡ Some seat = sym there ∙ ap (λ (xs : List Seat). slice_get xs i) does.1 ∙ ap (slice_get seats) (sym f) ∙ was in
    let h : other ≡ seat = cc in
    ap (λ (s : Seat). s.who) h ∙ who
only_after only place Leave old new seats after next seat was who does i other asks there = let e : None ≡ Some i = sym does.2 ∙ asks in absurd (cc)

only_asked : (only most : ℕ) (s m : PlayState) (ts : List TurnOf) → IsOnly only s → Plays (Some only) most s ts m → (turn : TurnOf) → In turn ts → turn.who ≡ only
only_asked only most s m [] is plays turn i = elim i [ ]
only_asked only most s m (t ∷ ts) is plays turn in_first =
    let a = plays.1.asks in
    a.who ∙ is plays.1.place a.seat plays.1.goes_on.at a.was
only_asked only most s m (t ∷ ts) is plays turn (in_later i) =
    let now = plays.1 in
    let a = now.asks in
    let x : Seat = record { who = a.seat.who; seen = a.new } in
    let there : slice_get now.seats now.place ≡ Some x = ap (λ (xs : List Seat). slice_get xs now.place) a.others ∙ got_put s.seats now.place a.seat x a.was in
    let who : a.seat.who ≡ only = is now.place a.seat now.goes_on.at a.was in
    only_asked only most plays.0 m ts (only_after only now.place t.pick s.course plays.0.course now.seats plays.0.seats plays.0.next x there who now.does) plays.2 turn i

all_told : (before : List Seen) (who : ℕ) → All (λ player. IsSome player.way) before → HasTold before who
all_told before who all = by (slice_get before who) refl
  where
    by : (o : Option Seen) → slice_get before who ≡ o → IfSome o (λ player. IsSome player.way)
    by None e = tt
    by (Some x) e = all_at (λ player. IsSome player.way) before who x all e

pub asked_told : (only : Option ℕ) (most : ℕ) (pool : Pooled) (before : List Seen) (ts : List TurnOf) (m : PlayState) → AskedTell only before → Plays only most (start pool before only) ts m → AskedTold before ts
asked_told None most pool before ts m all plays = λ turn i. all_told before turn.who all
asked_told (Some only) most pool before ts m tells plays = λ turn i.
    let start_is : IsOnly only (start pool before (Some only)) = λ place seat e there.
    (let same : only ≡ place = cc in seats_who 0 place before seat there ∙ (let z : 0 + place ≡ place = omega arith in z) ∙ sym same) in
    let who = only_asked only most (start pool before (Some only)) m ts start_is plays turn i in
    subst (HasTold before) (sym who) tells
