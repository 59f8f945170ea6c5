-- The turns of a play fit its players.
use Rattle.std.proofs.Common.{◌≡◌, ◌⊎◌, inl, inr, ⊎_elim, ℕ, zero, suc, ◌+◌, ◌<◌, List, [], ◌∷◌, ◌++◌, Option, Some, remove, slice_get, slice_set, eqb, if◌then◌else◌, refl, ap, sym, ◌∙◌, subst, arith, eq-eqb}
use Rattle.std.proofs.lemmas.Bool.{eqb-true, false_from_ne_true}
use Rattle.spi_term.specs.Lists.{At, at_first, at_later, In, in_first, in_later}
use Rattle.spi_term.proofs.Lists.{in_cases, in_append, in_left, in_right, in_none}
use Rattle.spi_replay.specs.Stepping.{Pooled}
use Rattle.spi_play.specs.declared.player.Pick.{Pick}
use Rattle.spi_play.specs.declared.player.Pick.TheVariants.{Take, Leave}
use Rattle.spi_play.specs.Way.{Seen}
use Rattle.spi_play.specs.Play.{Seat, PlayState, Course, TurnOf, Picks, AsksSeat, DoesTurn, TakesTurn, Plays, seats_from, start}
use Rattle.spi_play.specs.Fitting.{turns_of, FitsTurns, EndInLeave, AreInOrder, TurnsFit}

-- a list about the place of one of its seats
record Split (seats : List Seat) (place : ℕ) (seat : Seat) : Type 0 where
  pre : List Seat
  post : List Seat
  is : seats ≡ pre ++ seat ∷ post
  put : (x : Seat) → slice_set seats place x ≡ pre ++ x ∷ post
  gone : (x : Seat) → remove (slice_set seats place x) place ≡ pre ++ post

split_at : (seats : List Seat) (place : ℕ) (seat : Seat) → slice_get seats place ≡ Some seat → Split seats place seat
split_at [] place seat e = absurd (cc)
split_at (x ∷ xs) zero seat e = let f : x ≡ seat = cc in record {
  pre = [];
  post = xs;
  is = ap (λ y. y ∷ xs) f;
  put = λ y. refl;
  gone = λ y. refl;
}
split_at (x ∷ xs) (suc i) seat e = let s = split_at xs i seat e in record {
  pre = x ∷ s.pre;
  post = s.post;
  is = ap (λ ys. x ∷ ys) s.is;
  put = λ y. ap (λ ys. x ∷ ys) (s.put y);
  gone = λ y. ap (λ ys. x ∷ ys) (s.gone y);
}

-- a turn, by what it changes in the list
record SeatMoved (old after : List Seat) (turn : TurnOf) : Type 0 where
  place : ℕ
  seats : List Seat
  asks : AsksSeat old place turn seats
  split : Split old place asks.seat
  now : (after ≡ split.pre ++ record { who = asks.seat.who; seen = asks.new } ∷ split.post) ⊎ ((turn.pick ≡ Leave) × (after ≡ split.pre ++ split.post))

after_so : (only : Option ℕ) (place : ℕ) (pick : Pick) (c d : Course) (seats after : List Seat) (next : Option ℕ) (old : List Seat) (seat x : Seat) (s : Split old place seat) → seats ≡ slice_set old place x → DoesTurn only place pick c d seats after next → (after ≡ s.pre ++ x ∷ s.post) ⊎ ((pick ≡ Leave) × (after ≡ s.pre ++ s.post))
after_so only place (Take k) c d seats after next old seat x s is does = inl (does.1 ∙ is ∙ s.put x)
after_so only place Leave c d seats after next old seat x s is does = inr (refl, does.1 ∙ ap (λ (xs : List Seat). remove xs place) is ∙ s.gone x)

moved : (only : Option ℕ) (most : ℕ) (old : PlayState) (turn : TurnOf) (new : PlayState) → TakesTurn only most old turn new → SeatMoved old.seats new.seats turn
moved only most old turn new t =
    let a = t.asks in
    let s : Split old.seats t.place a.seat = split_at old.seats t.place a.seat a.was in
    let x : Seat = record { who = a.seat.who; seen = a.new } in
    record {
      place = t.place;
      seats = t.seats;
      asks = a;
      split = s;
      now = after_so only t.place turn.pick old.course new.course t.seats new.seats new.next old.seats a.seat x s a.others t.does;
    }

-- the order of a list about one of its seats
record Between (pre post : List Seat) (who : ℕ) : Type 0 where
  before : (y : Seat) → In y pre → y.who < who
  after : (y : Seat) → In y post → who < y.who

between : (pre : List Seat) (x : Seat) (post : List Seat) → AreInOrder (pre ++ x ∷ post) → Between pre post x.who
between [] x post o = record { before = λ y i. absurd (in_none i); after = o.0 }
between (z ∷ pre) x post o =
    let r = between pre x post o.1 in
    record {
      before = λ y i. ⊎_elim (λ e. let P : Seat → Type 0 = λ w. w.who < x.who in subst P (sym e) (o.0 x (in_right pre in_first))) (λ j. r.before y j) (in_cases i);
      after = r.after;
    }

order_put : (pre : List Seat) (x y : Seat) (post : List Seat) → x.who ≡ y.who → AreInOrder (pre ++ x ∷ post) → AreInOrder (pre ++ y ∷ post)
order_put [] x y post e o = ((λ z i. let h = o.0 z i in omega (arith, e, h)), o.1)
order_put (z ∷ pre) x y post e o =
    let first : z.who < y.who = let h = o.0 x (in_right pre in_first) in omega (arith, e, h) in
    let P : Seat → Type 0 = λ w. z.who < w.who in (
      (λ w i. ⊎_elim (λ j. o.0 w (in_left {xs = pre} (x ∷ post) j)) (λ j. ⊎_elim (λ f. subst P (sym f) first) (λ k. o.0 w (in_right pre (in_later k))) (in_cases j)) (in_append pre i)),
      order_put pre x y post e o.1,
    )

order_drop : (pre : List Seat) (x : Seat) (post : List Seat) → AreInOrder (pre ++ x ∷ post) → AreInOrder (pre ++ post)
order_drop [] x post o = o.1
order_drop (z ∷ pre) x post o = (
  (λ w i. ⊎_elim (λ j. o.0 w (in_left {xs = pre} (x ∷ post) j)) (λ j. o.0 w (in_right pre (in_later j))) (in_append pre i)),
  order_drop pre x post o.1,
)

order_moved : {old after : List Seat} {turn : TurnOf} → SeatMoved old after turn → AreInOrder old → AreInOrder after
order_moved m o =
    let P : List Seat → Type 0 = λ xs. AreInOrder xs in
    let here : AreInOrder (m.split.pre ++ m.asks.seat ∷ m.split.post) = subst P m.split.is o in
    ⊎_elim (λ e. subst P (sym e) (order_put m.split.pre m.asks.seat (record { who = m.asks.seat.who; seen = m.asks.new }) m.split.post refl here))
    (λ e. subst P (sym e.1) (order_drop m.split.pre m.asks.seat m.split.post here)) m.now

-- where a seat of the list is after a turn
data SeatPlace (s x y : Seat) (after : List Seat) (turn : TurnOf) : Type 0 where
  elsewhere : (turn.who ≡ s.who → ⊥) → In s after → SeatPlace s x y after turn
  asked_here : s ≡ x → In y after → SeatPlace s x y after turn
  left_here : s ≡ x → turn.pick ≡ Leave → ((t : Seat) → In t after → t.who ≡ x.who → ⊥) → SeatPlace s x y after turn

others_ne : {old after : List Seat} {turn : TurnOf} (m : SeatMoved old after turn) (t : Seat) → AreInOrder old → In t m.split.pre ⊎ In t m.split.post → t.who ≡ m.asks.seat.who → ⊥
others_ne m t o i e =
    let P : List Seat → Type 0 = λ xs. AreInOrder xs in
    let b : Between m.split.pre m.split.post m.asks.seat.who = between m.split.pre m.asks.seat m.split.post (subst P m.split.is o) in
    ⊎_elim (λ j. let h = b.before t j in omega (arith, e, h)) (λ j. let h = b.after t j in omega (arith, e, h)) i

in_after : {old after : List Seat} {turn : TurnOf} (m : SeatMoved old after turn) (t : Seat) → In t m.split.pre ⊎ In t m.split.post → In t after
in_after m t i =
    let P : List Seat → Type 0 = λ xs. In t xs in
    let y : Seat = record { who = m.asks.seat.who; seen = m.asks.new } in
    ⊎_elim (λ e. subst P (sym e) (⊎_elim (λ j. in_left {xs = m.split.pre} (y ∷ m.split.post) j) (λ j. in_right m.split.pre (in_later j)) i))
    (λ e. subst P (sym e.1) (⊎_elim (λ j. in_left {xs = m.split.pre} m.split.post j) (λ j. in_right m.split.pre j) i)) m.now

place_other : {old after : List Seat} {turn : TurnOf} (m : SeatMoved old after turn) (s : Seat) → AreInOrder old → In s m.split.pre ⊎ In s m.split.post → SeatPlace s m.asks.seat (record { who = m.asks.seat.who; seen = m.asks.new }) after turn
place_other m s o i = elsewhere (λ e. others_ne m s o i (sym e ∙ m.asks.who)) (in_after m s i)

place_same : {old after : List Seat} {turn : TurnOf} (m : SeatMoved old after turn) (s : Seat) → AreInOrder old → s ≡ m.asks.seat → SeatPlace s m.asks.seat (record { who = m.asks.seat.who; seen = m.asks.new }) after turn
place_same {after = after} m s o is =
    let y : Seat = record { who = m.asks.seat.who; seen = m.asks.new } in
    let P : List Seat → Type 0 = λ xs. In y xs in
    ⊎_elim (λ e. asked_here is (subst P (sym e) (in_right m.split.pre in_first)))
    (λ e. left_here is e.0 (λ t i f. let Q : List Seat → Type 0 = λ xs. In t xs in others_ne m t o (in_append m.split.pre (subst Q e.1 i)) f)) m.now

place_of : {old after : List Seat} {turn : TurnOf} (m : SeatMoved old after turn) (s : Seat) → AreInOrder old → In s old → SeatPlace s m.asks.seat (record { who = m.asks.seat.who; seen = m.asks.new }) after turn
place_of m s o i =
    let P : List Seat → Type 0 = λ xs. In s xs in
    ⊎_elim (λ j. place_other m s o (inl j)) (λ j. ⊎_elim (λ e. place_same m s o e) (λ k. place_other m s o (inr k)) (in_cases j)) (in_append m.split.pre (subst P m.split.is i))

-- where a seat of the list after a turn was before it
data Source (s x y : Seat) (old : List Seat) (turn : TurnOf) : Type 0 where
  from_elsewhere : (turn.who ≡ s.who → ⊥) → In s old → Source s x y old turn
  from_here : s ≡ y → In x old → Source s x y old turn

in_old : {old after : List Seat} {turn : TurnOf} (m : SeatMoved old after turn) (t : Seat) → In t m.split.pre ⊎ In t m.split.post → In t old
in_old m t i =
    let P : List Seat → Type 0 = λ xs. In t xs in
    subst P (sym m.split.is) (⊎_elim (λ j. in_left {xs = m.split.pre} (m.asks.seat ∷ m.split.post) j) (λ j. in_right m.split.pre (in_later j)) i)

source_other : {old after : List Seat} {turn : TurnOf} (m : SeatMoved old after turn) (s : Seat) → AreInOrder old → In s m.split.pre ⊎ In s m.split.post → Source s m.asks.seat (record { who = m.asks.seat.who; seen = m.asks.new }) old turn
source_other m s o i = from_elsewhere (λ e. others_ne m s o i (sym e ∙ m.asks.who)) (in_old m s i)

source_of : {old after : List Seat} {turn : TurnOf} (m : SeatMoved old after turn) (s : Seat) → AreInOrder old → In s after → Source s m.asks.seat (record { who = m.asks.seat.who; seen = m.asks.new }) old turn
source_of {old} m s o i =
    let P : List Seat → Type 0 = λ xs. In s xs in
    let Q : List Seat → Type 0 = λ xs. In m.asks.seat xs in
    let x_old : In m.asks.seat old = subst Q (sym m.split.is) (in_right m.split.pre in_first) in
    ⊎_elim
    (λ e. ⊎_elim (λ j. source_other m s o (inl j)) (λ j. ⊎_elim (λ f. from_here f x_old) (λ k. source_other m s o (inr k)) (in_cases j)) (in_append m.split.pre (subst P e i)))
    (λ e. source_other m s o (in_append m.split.pre (subst P e.1 i))) m.now

turns_here : (who : ℕ) (turn : TurnOf) (turns : List TurnOf) → turn.who ≡ who → turns_of who (turn ∷ turns) ≡ turn ∷ turns_of who turns
turns_here who turn turns e = ap (λ b. if b then (turn ∷ turns_of who turns) else turns_of who turns) (eq-eqb turn.who who e)

turns_other : (who : ℕ) (turn : TurnOf) (turns : List TurnOf) → (turn.who ≡ who → ⊥) → turns_of who (turn ∷ turns) ≡ turns_of who turns
turns_other who turn turns ne =
    ap (λ b. if b then (turn ∷ turns_of who turns) else turns_of who turns) (false_from_ne_true (eqb turn.who who) (λ t. ne (eqb-true turn.who who t)))

-- a player has these turns
abbrev EachBy : Seat → List TurnOf → List Seat → Type 0
EachBy s ts left = (new : Seen) × FitsTurns s.seen ts new × (In (record { who = s.who; seen = new }) left ⊎ EndInLeave ts)

leave_more : (turn : TurnOf) (ts : List TurnOf) → EndInLeave ts → EndInLeave (turn ∷ ts)
leave_more turn [] h = absurd h
leave_more turn (t ∷ ts) h = h

absent_after : {old after : List Seat} {turn : TurnOf} (m : SeatMoved old after turn) (s : Seat) (who : ℕ) → AreInOrder old → ((t : Seat) → In t old → t.who ≡ who → ⊥) → Source s m.asks.seat (record { who = m.asks.seat.who; seen = m.asks.new }) old turn → s.who ≡ who → ⊥
absent_after m s who o absent (from_elsewhere ne i) e = absent s i e
absent_after m s who o absent (from_here f i) e = absent m.asks.seat i (sym (ap (λ (t : Seat). t.who) f) ∙ e)

-- who isn't in the list has no turn
no_turns : (only : Option ℕ) (most : ℕ) (old : PlayState) (turns : List TurnOf) (last : PlayState) → AreInOrder old.seats → Plays only most old turns last → (who : ℕ) → ((s : Seat) → In s old.seats → s.who ≡ who → ⊥) → turns_of who turns ≡ []
no_turns only most old [] last o plays who absent = refl
no_turns only most old (turn ∷ turns) last o plays who absent =
    let m : SeatMoved old.seats plays.0.seats turn = moved only most old turn plays.0 plays.1 in
    let Q : List Seat → Type 0 = λ xs. In m.asks.seat xs in
    let there : In m.asks.seat old.seats = subst Q (sym m.split.is) (in_right m.split.pre in_first) in
    let gone : (s : Seat) → In s plays.0.seats → s.who ≡ who → ⊥ = λ s i e. absent_after m s who o absent (source_of m s o i) e in
    turns_other who turn turns (λ e. absent m.asks.seat there (sym m.asks.who ∙ e)) ∙ no_turns only most plays.0 turns last (order_moved m o) plays.2 who gone

each_so : (turn : TurnOf) (turns : List TurnOf) (s x : Seat) (new : Seen) (after left : List Seat) → turn.who ≡ x.who → Picks x.seen turn.ready turn.pick new → ((t : Seat) → In t after → EachBy t (turns_of t.who turns) left) → ((who : ℕ) → ((t : Seat) → In t after → t.who ≡ who → ⊥) → turns_of who turns ≡ []) → SeatPlace s x (record { who = x.who; seen = new }) after turn → EachBy s (turns_of s.who (turn ∷ turns)) left
each_so turn turns s x new after left who picks each none (elsewhere ne i) =
    let P : List TurnOf → Type 0 = λ ts. EachBy s ts left in
    subst P (sym (turns_other s.who turn turns ne)) (each s i)
each_so turn turns s x new after left who picks each none (asked_here is i) =
    let y : Seat = record { who = x.who; seen = new } in
    let r = each y i in
    let P : List TurnOf → Type 0 = λ ts. EachBy x ts left in
    let Q : Seat → Type 0 = λ t. EachBy t (turns_of t.who (turn ∷ turns)) left in
    let here : EachBy x (turn ∷ turns_of x.who turns) left = (r.0, (new, picks, r.1), ⊎_elim (λ j. inl j) (λ h. inr (leave_more turn (turns_of x.who turns) h)) r.2) in
    subst Q (sym is) (subst P (sym (turns_here x.who turn turns who)) here)
each_so turn turns s x new after left who picks each none (left_here is leaves gone) =
    let P : List TurnOf → Type 0 = λ ts. EachBy x ts left in
    let Q : Seat → Type 0 = λ t. EachBy t (turns_of t.who (turn ∷ turns)) left in
    let one : turns_of x.who (turn ∷ turns) ≡ turn ∷ [] = turns_here x.who turn turns who ∙ ap (λ ts. turn ∷ ts) (none x.who gone) in
    let here : EachBy x (turn ∷ []) left = (new, (new, picks, refl), inr leaves) in
    subst Q (sym is) (subst P (sym one) here)

each_player : (only : Option ℕ) (most : ℕ) (old : PlayState) (turns : List TurnOf) (last : PlayState) → AreInOrder old.seats → Plays only most old turns last → (s : Seat) → In s old.seats → EachBy s (turns_of s.who turns) last.seats
each_player only most old [] last o plays s i =
    let P : PlayState → Type 0 = λ t. In s t.seats in
    (s.seen, refl, inl (subst P (sym plays) i))
each_player only most old (turn ∷ turns) last o plays s i =
    let m : SeatMoved old.seats plays.0.seats turn = moved only most old turn plays.0 plays.1 in
    let after : AreInOrder plays.0.seats = order_moved m o in
    each_so turn turns s m.asks.seat m.asks.new plays.0.seats last.seats m.asks.who m.asks.picks
    (λ t j. each_player only most plays.0 turns last after plays.2 t j)
    (λ who gone. no_turns only most plays.0 turns last after plays.2 who gone)
    (place_of m s o i)

-- a player that is in the list was in it before
abbrev CameBy : List Seat → Seat → List TurnOf → Type 0
CameBy old s turns = (old_seat : Seat) × In old_seat old × (old_seat.who ≡ s.who) × FitsTurns old_seat.seen (turns_of s.who turns) s.seen

came_so : (old : List Seat) (turn : TurnOf) (turns : List TurnOf) (s t x : Seat) (new : Seen) → turn.who ≡ x.who → Picks x.seen turn.ready turn.pick new → t.who ≡ s.who → FitsTurns t.seen (turns_of s.who turns) s.seen → Source t x (record { who = x.who; seen = new }) old turn → CameBy old s (turn ∷ turns)
came_so old turn turns s t x new who picks same fits (from_elsewhere ne i) =
    let P : List TurnOf → Type 0 = λ ts. FitsTurns t.seen ts s.seen in
    (t, i, same, subst P (sym (turns_other s.who turn turns (λ e. ne (e ∙ sym same)))) fits)
came_so old turn turns s t x new who picks same fits (from_here is i) =
    let P : List TurnOf → Type 0 = λ ts. FitsTurns x.seen ts s.seen in
    let Q : Seat → Type 0 = λ y. FitsTurns y.seen (turns_of s.who turns) s.seen in
    let whose : x.who ≡ s.who = sym (ap (λ (y : Seat). y.who) is) ∙ same in
    (x, i, whose, subst P (sym (turns_here s.who turn turns (who ∙ whose))) (new, picks, subst Q is fits))

came : (only : Option ℕ) (most : ℕ) (old : PlayState) (turns : List TurnOf) (last : PlayState) → AreInOrder old.seats → Plays only most old turns last → (s : Seat) → In s last.seats → CameBy old.seats s turns
came only most old [] last o plays s i =
    let P : PlayState → Type 0 = λ t. In s t.seats in
    (s, subst P plays i, refl, refl)
came only most old (turn ∷ turns) last o plays s i =
    let m : SeatMoved old.seats plays.0.seats turn = moved only most old turn plays.0 plays.1 in
    let r = came only most plays.0 turns last (order_moved m o) plays.2 s i in
    came_so old.seats turn turns s r.0 m.asks.seat m.asks.new m.asks.who m.asks.picks r.2 r.3 (source_of m r.0 o r.1)

order_kept : (only : Option ℕ) (most : ℕ) (old : PlayState) (turns : List TurnOf) (last : PlayState) → AreInOrder old.seats → Plays only most old turns last → AreInOrder last.seats
order_kept only most old [] last o plays = let P : PlayState → Type 0 = λ t. AreInOrder t.seats in subst P (sym plays) o
order_kept only most old (turn ∷ turns) last o plays = order_kept only most plays.0 turns last (order_moved (moved only most old turn plays.0 plays.1) o) plays.2

-- the seats at the start
seat_at : (i : ℕ) (players : List Seen) (j : ℕ) (old : Seen) (who : ℕ) → who ≡ i + j → At players j old → In (record { who = who; seen = old }) (seats_from i players)
seat_at i [] j old who e a = elim a [ ]
seat_at i (player ∷ players) zero old who e (at_first) =
    let f : who ≡ i = omega (arith, e) in
    let P : ℕ → Type 0 = λ n. In (record { who = n; seen = player }) (seats_from i (player ∷ players)) in
    subst P (sym f) in_first
seat_at i (player ∷ players) (suc j) old who e (at_later a) =
    let f : who ≡ (i + 1) + j = omega (arith, e) in
    in_later (seat_at (i + 1) players j old who f a)

at_seat : (i : ℕ) (players : List Seen) (s : Seat) → In s (seats_from i players) → (j : ℕ) × At players j s.seen × (s.who ≡ i + j)
at_seat i [] s a = absurd (in_none a)
at_seat i (player ∷ players) s a =
    let x : Seat = record { who = i; seen = player } in
    let Goal : Seat → Type 0 = λ t. (j : ℕ) × At (player ∷ players) j t.seen × (t.who ≡ i + j) in
    ⊎_elim (λ e. subst Goal (sym e) (zero, at_first, omega arith))
    (λ b. let r = at_seat (i + 1) players s b in let f = r.2 in (suc r.0, at_later r.1, omega (arith, f))) (in_cases a)

start_ordered : (i : ℕ) (players : List Seen) → AreInOrder (seats_from i players)
start_ordered i [] = tt
start_ordered i (player ∷ players) = (
  (λ s a. let r = at_seat (i + 1) players s a in let f = r.2 in omega (arith, f)),
  start_ordered (i + 1) players,
)

pub turns_fit : (only : Option ℕ) (most : ℕ) (pool : Pooled) (players : List Seen) (turns : List TurnOf) (last : PlayState) → Plays only most (start pool players only) turns last → TurnsFit players turns last.seats
turns_fit only most pool players turns last plays =
    let first : PlayState = start pool players only in
    let o : AreInOrder first.seats = start_ordered 0 players in
    record {
      each = λ who old a. each_player only most first turns last o plays (record { who = who; seen = old }) (seat_at 0 players who old who (omega arith) a);
      stays = λ s i.
          let r = came only most first turns last o plays s i in
          let b = at_seat 0 players r.0 r.1 in
          let e : b.0 ≡ s.who = let f = b.2 in let g = r.2 in omega (arith, f, g) in
          let P : ℕ → Type 0 = λ n. At players n r.0.seen in
          (r.0.seen, subst P e b.1, r.3);
      ordered = order_kept only most first turns last o plays;
    }
