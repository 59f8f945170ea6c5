-- What a place does by what it waits for.
use Rattle.std.proofs.Common.{◌≡◌, ℕ, suc, ◌+◌, Bool, true, false, List, [], ◌∷◌, ◌++◌, length, Option, Some, None, slice_get, refl, sym, ap, ◌∙◌, subst, true≢false, ⊎_elim, ◌⊎◌, inl, inr, eq-eqb}
use Rattle.std.specs.Prelude.{if◌then◌else◌, ◌==◌}
use Rattle.spi_term.specs.Term.{Message, name, Ty, Process, send, recv, serve, stop}
use Rattle.spi_term.specs.Names.{ProcessOver}
use Rattle.std.proofs.lemmas.Bool.{eqb-true}
use Rattle.spi_term.specs.Spelling.{Shape, Spelling, spelled}
use Rattle.spi_term.proofs.Lists.{some_is}
use Rattle.spi_intern.specs.Table.{KeepsAll, AllDiffer}
use Rattle.spi_intern.specs.declared.messages.MsgId.{MsgId}
use Rattle.spi_run.specs.Reduction.{Event, Talks, talks_once, talks_again}
use Rattle.spi_replay.specs.declared.names.Link.{Link}
use Rattle.spi_replay.specs.declared.places.Place.{Place}
use Rattle.spi_replay.specs.declared.waits.Kind.{Kind}
use Rattle.spi_replay.specs.declared.waits.Wait.{Wait}
use Rattle.spi_replay.specs.declared.waits.Wait.TheVariants as W
use Rattle.spi_replay.specs.declared.waits.Meeting.{Meeting}
use Rattle.spi_replay.specs.Holding.{value, chain, held_at, place_process, IsClosed, AllClosed, Chain}
use Rattle.spi_replay.specs.Waiting.{met_if, met_with, met_by}
use Rattle.spi_replay.specs.Moves.{event_of, Move, stays, puts, takes, takes_again, move_of, bound_in, appended, acts_alone, Numbers, Waits, w_puts, w_takes, w_takes_again, w_binds_one, w_binds_two, w_goes_on, w_shows, w_makes, w_forks}
use Rattle.spi_replay.specs.Standing.{Enters, IsPlace, Binds, StandsAt}
use Rattle.spi_replay.proofs.Subtrees.{FollowsNode, node_at}
use Rattle.spi_replay.proofs.Forms.{IsQuiet, IsStill, LeadsByOne, MovesByForm, moves_stays, moves_puts, moves_takes, moves_takes_again, moves_one, moves_two, moves_on, moves_shows, moves_makes, moves_forks, node_moves, done_moves}
use Rattle.spi_replay.proofs.Chains.{chain_is, enters_kept}
use Rattle.spi_replay.proofs.Awaiting.{waits_kept}

abbrev pub shapes_in : Place → List Shape
shapes_in p = spelled p.source.now.names p.source.now.process

-- what a place waits for, and does
pub record Acting (ms : List Message) (ls : List Link) (p : Place) : Type 0 where
  pub values : List Message
  pub linked : Chain ms ls p.last values
  pub closed : AllClosed values
  pub move : Move
  pub waits : Waits ms p.wait move
  pub moves : MovesByForm p.source.now.names (shapes_in p) values (place_process ms ls p) move

pub process_is : {ms : List Message} {ls : List Link} (p : Place) (h : IsPlace ms ls p) → place_process ms ls p ≡ (if p.done then stop else held_at p.source.now.names h.values (shapes_in p) p.node)
process_is {ms} {ls} p h =
    ap (λ vs. if p.done then stop else held_at p.source.now.names vs (shapes_in p) p.node) (ap (λ n. chain ms ls n p.last) (sym h.bound) ∙ chain_is h.enters.linked)

pub acting : {ms : List Message} {ls : List Link} (p : Place) → IsPlace ms ls p → Acting ms ls p
acting {ms} {ls} p h =
    let e = h.enters in
    let k = p.source.now.names in
    let v : Move = if p.done then stays else move_of (value k h.values) e.shape in
    let m = node_moves k (shapes_in p) h.values e.closed p.node e.shape (node_at k p.source.now.process e.over p.node e.shape e.there) e.scope in
    let d = done_moves k (shapes_in p) h.values p.done (held_at k h.values (shapes_in p) p.node) (move_of (value k h.values) e.shape) m in
    record {
      values = h.values;
      linked = e.linked;
      closed = e.closed;
      move = v;
      waits = h.waits;
      moves = subst (λ q. MovesByForm k (shapes_in p) h.values q v) (sym (process_is p h)) d;
    }

-- kept
pub place_kept : {ms ns : List Message} {ls ks : List Link} {p : Place} → KeepsAll ms ns → KeepsAll ls ks → IsPlace ms ls p → IsPlace ns ks p
place_kept k l h = record {
  values = h.values;
  enters = enters_kept k l h.enters;
  bound = h.bound;
  waits = waits_kept k h.waits;
}

pub process_kept : {ms ns : List Message} {ls ks : List Link} (p : Place) → KeepsAll ms ns → KeepsAll ls ks → IsPlace ms ls p → place_process ns ks p ≡ place_process ms ls p
unfolding place_kept
process_kept p k l h = process_is p (place_kept k l h) ∙ sym (process_is p h)

pub stands_kept : {ms ns : List Message} {ls ks : List Link} {sp : Spelling} {node : ℕ} {vs : List Message} {p : Place} → KeepsAll ms ns → KeepsAll ls ks → StandsAt ms ls sp node vs p → StandsAt ns ks sp node vs p
stands_kept {p = p} k l s = record { is = place_kept k l s.is; process = process_kept p k l s.is ∙ s.process }

-- a move that doesn't act, and one that does
pub still_of : {k : ℕ} {ss : List Shape} {vs : List Message} {p : Process} {v : Move} → acts_alone v ≡ false → MovesByForm k ss vs p v → IsStill p
still_of e (moves_stays q s) = s
still_of e (moves_puts {a} {b} f c) = subst IsStill (sym f) (record { still = λ n x n' p' more h. elim h [ ] })
still_of e (moves_takes {a} {t} {q} f o) = subst IsStill (sym f) (record { still = λ n x n' p' more h. elim h [ ] })
still_of e (moves_takes_again {a} {t} {q} f o) = subst IsStill (sym f) (record { still = λ n x n' p' more h. elim h [ ] })
still_of e (moves_one q c l f) = absurd (true≢false e)
still_of e (moves_two q c d l f) = absurd (true≢false e)
still_of e (moves_on q l f) = absurd (true≢false e)
still_of e (moves_shows q l f) = absurd (true≢false e)
still_of e (moves_makes q l f) = absurd (true≢false e)
still_of e (moves_forks q l f g) = absurd (true≢false e)

pub record MoveOutcome (n : ℕ) (p : Process) (v : Move) : Type 0 where
  pub event : Option Event
  pub names : ℕ
  pub now : Process
  pub more : List Process
  pub leads : LeadsByOne n p event names now more (bound_in n v)
  pub count : length more ≡ appended v

pub outcome_of : {k : ℕ} {ss : List Shape} {vs : List Message} {p : Process} {v : Move} (n : ℕ) → acts_alone v ≡ true → MovesByForm k ss vs p v → MoveOutcome n p v
outcome_of n e (moves_stays q s) = absurd (true≢false (sym e))
outcome_of n e (moves_puts f c) = absurd (true≢false (sym e))
outcome_of n e (moves_takes f o) = absurd (true≢false (sym e))
outcome_of n e (moves_takes_again f o) = absurd (true≢false (sym e))
outcome_of n e (moves_one q c l f) = record { event = _; names = _; now = _; more = _; leads = l n; count = refl }
outcome_of n e (moves_two q c d l f) = record { event = _; names = _; now = _; more = _; leads = l n; count = refl }
outcome_of n e (moves_on q l f) = record { event = _; names = _; now = _; more = _; leads = l n; count = refl }
outcome_of n e (moves_shows q l f) = record { event = _; names = _; now = _; more = _; leads = l n; count = refl }
outcome_of n e (moves_makes q l f) = record { event = _; names = _; now = _; more = _; leads = l n; count = refl }
outcome_of n e (moves_forks q l f g) = record { event = _; names = _; now = _; more = _; leads = l n; count = refl }

-- by each wait
module _ {ms : List Message} {ls : List Link} (p : Place) (h : Acting ms ls p) (over : ProcessOver p.source.now.names p.source.now.process) where
  binds_at : {i : ℕ} (more : List Message) → AllClosed (more ++ h.values) → FollowsNode (shapes_in p) i (p.source.now.names + length (more ++ h.values)) → Binds ms ls p.source.now i p.last h.values more
  binds_at more c f = record { over = over; linked = h.linked; closed = c; shape = f.shape; there = f.there; scope = f.scope }

  enters_at : {i : ℕ} → FollowsNode (shapes_in p) i (p.source.now.names + length h.values) → Enters ms ls p.source.now i p.last h.values
  enters_at f = record { over = over; linked = h.linked; closed = h.closed; shape = f.shape; there = f.there; scope = f.scope }

pub record ActsOne (ms : List Message) (ls : List Link) (p : Place) (id : MsgId) (i : ℕ) : Type 0 where
  pub values : List Message
  pub message : Message
  pub number : Numbers ms id message
  pub leads : (n : ℕ) → LeadsByOne n (place_process ms ls p) None n (held_at p.source.now.names (message ∷ values) (shapes_in p) i) [] (message ∷ [])
  pub binds : Binds ms ls p.source.now i p.last values (message ∷ [])

pub record ActsTwo (ms : List Message) (ls : List Link) (p : Place) (id j : MsgId) (i : ℕ) : Type 0 where
  pub values : List Message
  pub message : Message
  pub other : Message
  pub number : Numbers ms id message
  pub other_number : Numbers ms j other
  pub leads : (n : ℕ) → LeadsByOne n (place_process ms ls p) None n (held_at p.source.now.names (other ∷ (message ∷ values)) (shapes_in p) i) [] (message ∷ (other ∷ []))
  pub binds : Binds ms ls p.source.now i p.last values (other ∷ (message ∷ []))

pub record ActsOn (ms : List Message) (ls : List Link) (p : Place) (i : ℕ) : Type 0 where
  pub values : List Message
  pub leads : (n : ℕ) → LeadsByOne n (place_process ms ls p) None n (held_at p.source.now.names values (shapes_in p) i) [] []
  pub enters : Enters ms ls p.source.now i p.last values

pub record ActsShowing (ms : List Message) (ls : List Link) (p : Place) (k : Kind) (id : MsgId) (i : ℕ) : Type 0 where
  pub values : List Message
  pub message : Message
  pub number : Numbers ms id message
  pub leads : (n : ℕ) → LeadsByOne n (place_process ms ls p) (Some (event_of k message)) n (held_at p.source.now.names values (shapes_in p) i) [] (message ∷ [])
  pub enters : Enters ms ls p.source.now i p.last values

pub record ActsMaking (ms : List Message) (ls : List Link) (p : Place) (i : ℕ) : Type 0 where
  pub values : List Message
  pub leads : (n : ℕ) → LeadsByOne n (place_process ms ls p) None (suc n) (held_at p.source.now.names (name n ∷ values) (shapes_in p) i) [] (name n ∷ [])
  pub binds : (n : ℕ) → Binds ms ls p.source.now i p.last values (name n ∷ [])

pub record ActsForking (ms : List Message) (ls : List Link) (p : Place) (i j : ℕ) : Type 0 where
  pub values : List Message
  pub leads : (n : ℕ) → LeadsByOne n (place_process ms ls p) None n (held_at p.source.now.names values (shapes_in p) i) (held_at p.source.now.names values (shapes_in p) j ∷ []) []
  pub enters : Enters ms ls p.source.now i p.last values
  pub rest : Enters ms ls p.source.now j p.last values

module _ {ms : List Message} {ls : List Link} (p : Place) (h : Acting ms ls p) (over : ProcessOver p.source.now.names p.source.now.process) where
  one_from : {id : MsgId} {i : ℕ} {v : Move} → Waits ms (W.BindsOne id i) v → MovesByForm p.source.now.names (shapes_in p) h.values (place_process ms ls p) v → ActsOne ms ls p id i
  one_from (w_binds_one {m = m} a) (moves_one q c l f) = record { values = h.values; message = m; number = a; leads = l; binds = binds_at p h over (m ∷ []) (c, h.closed) f }

  two_from : {id j : MsgId} {i : ℕ} {v : Move} → Waits ms (W.BindsTwo id j i) v → MovesByForm p.source.now.names (shapes_in p) h.values (place_process ms ls p) v → ActsTwo ms ls p id j i
  two_from (w_binds_two {m = m} {n = d} a b) (moves_two q c e l f) = record { values = h.values; message = m; other = d; number = a; other_number = b; leads = l; binds = binds_at p h over (d ∷ (m ∷ [])) (e, (c, h.closed)) f }

  on_from : {i : ℕ} {v : Move} → Waits ms (W.GoesOn i) v → MovesByForm p.source.now.names (shapes_in p) h.values (place_process ms ls p) v → ActsOn ms ls p i
  on_from w_goes_on (moves_on q l f) = record { values = h.values; leads = l; enters = enters_at p h over f }

  showing_from : {k : Kind} {id : MsgId} {i : ℕ} {v : Move} → Waits ms (W.Shows k id i) v → MovesByForm p.source.now.names (shapes_in p) h.values (place_process ms ls p) v → ActsShowing ms ls p k id i
  showing_from (w_shows {m = m} a) (moves_shows q l f) = record { values = h.values; message = m; number = a; leads = l; enters = enters_at p h over f }

  making_from : {i : ℕ} {v : Move} → Waits ms (W.Freshes i) v → MovesByForm p.source.now.names (shapes_in p) h.values (place_process ms ls p) v → ActsMaking ms ls p i
  making_from w_makes (moves_makes q l f) = record { values = h.values; leads = l; binds = λ n. binds_at p h over (name n ∷ []) (tt, h.closed) (f n) }

  forking_from : {i j : ℕ} {v : Move} → Waits ms (W.Forks i j) v → MovesByForm p.source.now.names (shapes_in p) h.values (place_process ms ls p) v → ActsForking ms ls p i j
  forking_from w_forks (moves_forks q l f g) = record { values = h.values; leads = l; enters = enters_at p h over f; rest = enters_at p h over g }

wait_is : {ms : List Message} {v w : Wait} {m : Move} → w ≡ v → Waits ms w m → Waits ms v m
wait_is {ms} {m = m} e x = subst (λ w. Waits ms w m) e x

module _ {ms : List Message} {ls : List Link} (p : Place) (h : IsPlace ms ls p) where
  pub acts_one : {id : MsgId} {i : ℕ} → p.wait ≡ W.BindsOne id i → ActsOne ms ls p id i
  acts_one e = let a = acting p h in one_from p a h.enters.over (wait_is e a.waits) a.moves

  pub acts_two : {id j : MsgId} {i : ℕ} → p.wait ≡ W.BindsTwo id j i → ActsTwo ms ls p id j i
  acts_two e = let a = acting p h in two_from p a h.enters.over (wait_is e a.waits) a.moves

  pub acts_on : {i : ℕ} → p.wait ≡ W.GoesOn i → ActsOn ms ls p i
  acts_on e = let a = acting p h in on_from p a h.enters.over (wait_is e a.waits) a.moves

  pub acts_showing : {k : Kind} {id : MsgId} {i : ℕ} → p.wait ≡ W.Shows k id i → ActsShowing ms ls p k id i
  acts_showing e = let a = acting p h in showing_from p a h.enters.over (wait_is e a.waits) a.moves

  pub acts_making : {i : ℕ} → p.wait ≡ W.Freshes i → ActsMaking ms ls p i
  acts_making e = let a = acting p h in making_from p a h.enters.over (wait_is e a.waits) a.moves

  pub acts_forking : {i j : ℕ} → p.wait ≡ W.Forks i j → ActsForking ms ls p i j
  acts_forking e = let a = acting p h in forking_from p a h.enters.over (wait_is e a.waits) a.moves

-- outputs and inputs
pub record PutsHere (ms : List Message) (ls : List Link) (p : Place) (id j : MsgId) : Type 0 where
  pub channel : Message
  pub datum : Message
  pub on : Numbers ms id channel
  pub number : Numbers ms j datum
  pub closed : IsClosed datum
  pub is : place_process ms ls p ≡ send channel datum

pub record TakesHere (ms : List Message) (ls : List Link) (p : Place) (id : MsgId) (i : ℕ) (again : Bool) : Type 0 where
  pub values : List Message
  pub channel : Message
  pub on : Numbers ms id channel
  pub talks : (m : Message) → Talks (send channel m) (place_process ms ls p) (if again then place_process ms ls p else held_at p.source.now.names (m ∷ values) (shapes_in p) i) (if again then held_at p.source.now.names (m ∷ values) (shapes_in p) i ∷ [] else [])
  pub binds : (m : Message) → IsClosed m → Binds ms ls p.source.now i p.last values (m ∷ [])

module _ {ms : List Message} {ls : List Link} (p : Place) (h : Acting ms ls p) (over : ProcessOver p.source.now.names p.source.now.process) where
  puts_from : {id j : MsgId} {v : Move} → Waits ms (W.Puts id j) v → MovesByForm p.source.now.names (shapes_in p) h.values (place_process ms ls p) v → PutsHere ms ls p id j
  puts_from (w_puts {m = m} {n = n} a b) (moves_puts e c) = record { channel = m; datum = n; on = a; number = b; closed = c; is = e }

  takes_from : {id : MsgId} {i : ℕ} {v : Move} → Waits ms (W.Takes id i) v → MovesByForm p.source.now.names (shapes_in p) h.values (place_process ms ls p) v → TakesHere ms ls p id i false
  takes_from {i = i} (w_takes {m = m} a) (moves_takes {t = t} {q = q} e o) = record {
    values = h.values;
    channel = m;
    on = a;
    talks = λ d. subst (λ x. Talks (send m d) x (held_at p.source.now.names (d ∷ h.values) (shapes_in p) i) []) (sym e) (subst (λ x. Talks (send m d) (recv m t q) x []) (o.opens d) (talks_once refl));
    binds = λ d c. binds_at p h over (d ∷ []) (c, h.closed) (o.follows d);
  }

  again_from : {id : MsgId} {i : ℕ} {v : Move} → Waits ms (W.TakesAgain id i) v → MovesByForm p.source.now.names (shapes_in p) h.values (place_process ms ls p) v → TakesHere ms ls p id i true
  again_from {i = i} (w_takes_again {m = m} a) (moves_takes_again {t = t} {q = q} e o) = record {
    values = h.values;
    channel = m;
    on = a;
    talks = λ d. subst (λ x. Talks (send m d) x x (held_at p.source.now.names (d ∷ h.values) (shapes_in p) i ∷ [])) (sym e) (subst (λ x. Talks (send m d) (serve m t q) (serve m t q) (x ∷ [])) (o.opens d) (talks_again refl));
    binds = λ d c. binds_at p h over (d ∷ []) (c, h.closed) (o.follows d);
  }

-- the two that meet
pub record Meets (ms : List Message) (ls : List Link) (p q : Place) (m : Meeting) : Type 0 where
  pub values : List Message
  pub datum : Message
  pub number : Numbers ms m.datum datum
  pub channel : Message
  pub is : place_process ms ls p ≡ send channel datum
  pub talks : Talks (place_process ms ls p) (place_process ms ls q) (if m.again then place_process ms ls q else held_at q.source.now.names (datum ∷ values) (shapes_in q) m.body) (if m.again then held_at q.source.now.names (datum ∷ values) (shapes_in q) m.body ∷ [] else [])
  pub binds : Binds ms ls q.source.now m.body q.last values (datum ∷ [])

same_place : (ms : List Message) (i j : MsgId) {m n : Message} → i.place ≡ j.place → Numbers ms i m → Numbers ms j n → m ≡ n
same_place ms i j e a b = some_is (sym a ∙ ap (slice_get ms) e ∙ b)

meets_from : {ms : List Message} {ls : List Link} (p q : Place) (on at d : MsgId) (i : ℕ) (z : Bool) → on.place ≡ at.place → PutsHere ms ls p on d → TakesHere ms ls q at i z → Meets ms ls p q (record { datum = d; body = i; again = z })
meets_from {ms} {ls} p q on at d i z e x y =
    let f : y.channel ≡ x.channel = sym (same_place ms on at e x.on y.on) in
    let r = if z then place_process ms ls q else held_at q.source.now.names (x.datum ∷ y.values) (shapes_in q) i in
    let more : List Process = if z then held_at q.source.now.names (x.datum ∷ y.values) (shapes_in q) i ∷ [] else [] in
    record {
      values = y.values;
      datum = x.datum;
      number = x.number;
      channel = x.channel;
      is = x.is;
      talks = subst (λ w. Talks w (place_process ms ls q) r more) (sym x.is) (subst (λ c. Talks (send c x.datum) (place_process ms ls q) r more) f (y.talks x.datum));
      binds = y.binds x.datum x.closed;
    }

met_same : (on at : MsgId) (m r : Meeting) → met_if on at m ≡ Some r → (on.place ≡ at.place) × (m ≡ r)
met_same on at m r e = by (on.place == at.place) refl e
  where
    by : (z : Bool) → (on.place == at.place) ≡ z → (if z then Some m else None) ≡ Some r → (on.place ≡ at.place) × (m ≡ r)
    by true f g = (eqb-true on.place at.place f, some_is g)
    by false f g = absurd cc

pub meets_of : {ms : List Message} {ls : List Link} (p q : Place) (m : Meeting) → IsPlace ms ls p → IsPlace ms ls q → met_by p.wait q.wait ≡ Some m → Meets ms ls p q m
meets_of {ms} {ls} p q m h g e = first p.wait refl e
  where
    put : (on d : MsgId) → p.wait ≡ W.Puts on d → PutsHere ms ls p on d
    put on d f = let a = acting p h in puts_from p a h.enters.over (wait_is f a.waits) a.moves

    second : (on d : MsgId) → p.wait ≡ W.Puts on d → (w : Wait) → q.wait ≡ w → met_with on d w ≡ Some m → Meets ms ls p q m
    second on d f (W.Takes at i) g' e' =
        let a = acting q g in
        let s = met_same on at (record { datum = d; body = i; again = false }) m e' in
        subst (Meets ms ls p q) s.1 (meets_from p q on at d i false s.0 (put on d f) (takes_from q a g.enters.over (wait_is g' a.waits) a.moves))
    second on d f (W.TakesAgain at i) g' e' =
        let a = acting q g in
        let s = met_same on at (record { datum = d; body = i; again = true }) m e' in
        subst (Meets ms ls p q) s.1 (meets_from p q on at d i true s.0 (put on d f) (again_from q a g.enters.over (wait_is g' a.waits) a.moves))
    second on d f w g' e' = absurd cc

    first : (w : Wait) → p.wait ≡ w → met_by w q.wait ≡ Some m → Meets ms ls p q m
    first (W.Puts on d) f e' = second on d f q.wait refl e'
    first w f e' = absurd cc

-- two that don't
record PutsBy (ms : List Message) (w : Wait) (c : Message) : Type 0 where
  pub channel : MsgId
  pub datum : MsgId
  pub is : w ≡ W.Puts channel datum
  pub on : Numbers ms channel c

record TakesBy (ms : List Message) (w : Wait) (c : Message) : Type 0 where
  pub channel : MsgId
  pub body : ℕ
  pub is : (w ≡ W.Takes channel body) ⊎ (w ≡ W.TakesAgain channel body)
  pub on : Numbers ms channel c

puts_wait : {ms : List Message} {w : Wait} {c d : Message} → Waits ms w (puts c d) → PutsBy ms w c
puts_wait (w_puts {i = i} {j = j} a b) = record { channel = i; datum = j; is = refl; on = a }

takes_wait : {ms : List Message} {w : Wait} {c : Message} {b : ℕ} → Waits ms w (takes c b) → TakesBy ms w c
takes_wait (w_takes {i = i} {b = b} a) = record { channel = i; body = b; is = inl refl; on = a }

again_wait : {ms : List Message} {w : Wait} {c : Message} {b : ℕ} → Waits ms w (takes_again c b) → TakesBy ms w c
again_wait (w_takes_again {i = i} {b = b} a) = record { channel = i; body = b; is = inr refl; on = a }

quiet_no : {p q : Process} → p ≡ q → IsQuiet p → IsQuiet q
quiet_no e h = subst IsQuiet e h

channel_of : Process → Message
channel_of (send a b) = a
channel_of (recv a t p) = a
channel_of (serve a t p) = a
channel_of p = name 0

puts_by : {ms : List Message} {w : Wait} {k : ℕ} {ss : List Shape} {vs : List Message} {p : Process} {v : Move} (c d : Message) → p ≡ send c d → Waits ms w v → MovesByForm k ss vs p v → PutsBy ms w c
unfolding channel_of
puts_by c d e x (moves_stays q s) = absurd (quiet_no e q)
puts_by {ms} {w} c d e x (moves_puts {a} {b} f z) = subst (PutsBy ms w) (ap channel_of (sym f ∙ e)) (puts_wait x)
puts_by c d e x (moves_takes f o) = absurd cc
puts_by c d e x (moves_takes_again f o) = absurd cc
puts_by c d e x (moves_one q z l f) = absurd (quiet_no e q)
puts_by c d e x (moves_two q z y l f) = absurd (quiet_no e q)
puts_by c d e x (moves_on q l f) = absurd (quiet_no e q)
puts_by c d e x (moves_shows q l f) = absurd (quiet_no e q)
puts_by c d e x (moves_makes q l f) = absurd (quiet_no e q)
puts_by c d e x (moves_forks q l f g) = absurd (quiet_no e q)

takes_by : {ms : List Message} {w : Wait} {k : ℕ} {ss : List Shape} {vs : List Message} {p : Process} {v : Move} (c : Message) (t : Ty) (r : Process) → (p ≡ recv c t r) ⊎ (p ≡ serve c t r) → Waits ms w v → MovesByForm k ss vs p v → TakesBy ms w c
unfolding channel_of
takes_by c t r e x (moves_stays q s) = ⊎_elim (λ f. absurd (quiet_no f q)) (λ f. absurd (quiet_no f q)) e
takes_by c t r e x (moves_puts f z) = ⊎_elim (λ g. absurd cc) (λ g. absurd cc) e
takes_by {ms} {w} c t r e x (moves_takes f o) = ⊎_elim (λ g. subst (TakesBy ms w) (ap channel_of (sym f ∙ g)) (takes_wait x)) (λ g. absurd cc) e
takes_by {ms} {w} c t r e x (moves_takes_again f o) = ⊎_elim (λ g. absurd cc) (λ g. subst (TakesBy ms w) (ap channel_of (sym f ∙ g)) (again_wait x)) e
takes_by c t r e x (moves_one q z l f) = ⊎_elim (λ f. absurd (quiet_no f q)) (λ f. absurd (quiet_no f q)) e
takes_by c t r e x (moves_two q z y l f) = ⊎_elim (λ f. absurd (quiet_no f q)) (λ f. absurd (quiet_no f q)) e
takes_by c t r e x (moves_on q l f) = ⊎_elim (λ f. absurd (quiet_no f q)) (λ f. absurd (quiet_no f q)) e
takes_by c t r e x (moves_shows q l f) = ⊎_elim (λ f. absurd (quiet_no f q)) (λ f. absurd (quiet_no f q)) e
takes_by c t r e x (moves_makes q l f) = ⊎_elim (λ f. absurd (quiet_no f q)) (λ f. absurd (quiet_no f q)) e
takes_by c t r e x (moves_forks q l f g) = ⊎_elim (λ f. absurd (quiet_no f q)) (λ f. absurd (quiet_no f q)) e

record Talking (p q : Process) : Type 0 where
  pub channel : Message
  pub datum : Message
  pub type : Ty
  pub body : Process
  pub out : p ≡ send channel datum
  pub inp : (q ≡ recv channel type body) ⊎ (q ≡ serve channel type body)

talking : {p q r : Process} {more : List Process} → Talks p q r more → Talking p q
talking (talks_once {a} {b} {c} {t} {p} e) = record { channel = a; datum = b; type = t; body = p; out = refl; inp = inl (ap (λ x. recv x t p) (sym e)) }
talking (talks_again {a} {b} {c} {t} {p} e) = record { channel = a; datum = b; type = t; body = p; out = refl; inp = inr (ap (λ x. serve x t p) (sym e)) }

met_here : (on at : MsgId) (m : Meeting) → on.place ≡ at.place → met_if on at m ≡ None → ⊥
met_here on at m e h = let f : (on.place == at.place) ≡ true = eq-eqb on.place at.place e in absurd (let g : Some m ≡ None = sym (ap (λ (z : Bool). if z then Some m else None) f) ∙ h in cc)

pub no_meeting : {ms : List Message} {ls : List Link} (p q : Place) → AllDiffer ms → IsPlace ms ls p → IsPlace ms ls q → met_by p.wait q.wait ≡ None → (r : Process) (more : List Process) → Talks (place_process ms ls p) (place_process ms ls q) r more → ⊥
no_meeting {ms} {ls} p q d h g e r more t =
    let x = talking t in
    let a = acting p h in
    let b = acting q g in
    let u = puts_by x.channel x.datum x.out a.waits a.moves in
    let v = takes_by x.channel x.type x.body x.inp b.waits b.moves in
    let s : u.channel.place ≡ v.channel.place = d.one u.channel.place v.channel.place x.channel u.on v.on in
    ⊎_elim (λ f. met_here u.channel v.channel (record { datum = u.datum; body = v.body; again = false }) s (sym ((ap (λ w. met_by w q.wait) u.is) ∙ ap (met_with u.channel u.datum) f) ∙ e)) (λ f. met_here u.channel v.channel (record { datum = u.datum; body = v.body; again = true }) s (sym ((ap (λ w. met_by w q.wait) u.is) ∙ ap (met_with u.channel u.datum) f) ∙ e)) v.is
