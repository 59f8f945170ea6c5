-- The steps that begin at a place, by what the place waits for.
use Rattle.std.proofs.Common.{◌≡◌, ℕ, zero, suc, ◌+◌, ◌^◌, ◌<◌, ◌≤◌, Bool, true, false, List, [], ◌∷◌, map, length, Option, Some, None, slice_get, get_or, refl, sym, ap, ◌∙◌, subst, arith, true≢false, eq-eqb}
use Rattle.std.specs.Prelude.{if◌then◌else◌, ◌==◌}
use Rattle.std.proofs.lemmas.Bool.{eqb-true}
use Rattle.std.proofs.lemmas.List.{length-map}
use Rattle.spi_term.specs.Term.{Message, same_message, Process, send, recv, serve}
use Rattle.spi_term.specs.Spelling.{Shape}
use Rattle.spi_term.proofs.Lists.{some_is, get_map}
use Rattle.spi_intern.specs.Table.{AllDiffer}
use Rattle.spi_intern.proofs.Lists.{truths}
use Rattle.spi_intern.proofs.MessageLaws.{same_true, same_self}
use Rattle.spi_run.specs.Reduction.{Step, act, talk}
use Rattle.spi_replay.specs.declared.names.Link.{Link}
use Rattle.spi_replay.specs.declared.places.Place.{Place}
use Rattle.spi_replay.specs.declared.waits.Wait.{Wait}
use Rattle.spi_replay.specs.declared.waits.Wait.TheVariants as W
use Rattle.spi_replay.specs.Holding.{place_process}
use Rattle.spi_replay.specs.Waiting.{wait_acts}
use Rattle.spi_replay.specs.Moves.{Move, acts_alone}
use Rattle.spi_replay.specs.Standing.{IsPlace, ArePlaces, processes}
use Rattle.spi_replay.specs.declared.running.State.{State}
use Rattle.spi_replay.specs.Pools.{pooled, IsState}
use Rattle.spi_replay.specs.Indexed.{out_channel, in_channel, is_on, places_on, waits_of}
use Rattle.spi_replay.specs.Listing.{acts_now, puts_on, takes_on, is_channel, talks_to, talks_of, steps_at, steps_by, steps_begun, steps_before, ready_steps}
use Rattle.spi_replay.proofs.Forms.{IsQuiet, IsStill, MovesByForm, moves_stays, moves_puts, moves_takes, moves_takes_again, moves_one, moves_two, moves_on, moves_shows, moves_makes, moves_forks}
use Rattle.spi_replay.proofs.Awaiting.{Channel, no_channel, a_channel, put_of, take_of, waits_tell}
use Rattle.spi_replay.proofs.Does.{acting, still_of, outcome_of}
use Rattle.spi_replay.proofs.Listed.{acts_true, true_acts}
use Rattle.spi_replay.proofs.Begun.{few_begun, length_more, before_all, before_fits, get_begun}

-- whether it acts
still_false : (p : Process) → IsStill p → acts_now p ≡ false
still_false p s = by (acts_now p) refl
  where
    by : (z : Bool) → acts_now p ≡ z → z ≡ false
    by true e = let w = true_acts 0 p e in absurd (s.still 0 w.event w.names w.now w.more w.acts)
    by false e = refl

acts_move : {k : ℕ} {ss : List Shape} {vs : List Message} {p : Process} {v : Move} (z : Bool) → acts_alone v ≡ z → MovesByForm k ss vs p v → acts_now p ≡ z
acts_move true e m = let w = outcome_of 0 e m in acts_true w.leads.acts
acts_move {p = p} false e m = still_false p (still_of e m)

pub acts_told : {ms : List Message} {ls : List Link} (p : Place) → IsPlace ms ls p → acts_now (place_process ms ls p) ≡ wait_acts p.wait
acts_told p h = let a = acting p h in acts_move (acts_alone a.move) refl a.moves ∙ sym (waits_tell a.waits).acts

-- the channels of a process
quiet_puts : (p : Process) → IsQuiet p → puts_on p ≡ None
quiet_puts (send a b) h = absurd h
quiet_puts p h = refl

quiet_takes : (p : Process) → IsQuiet p → takes_on p ≡ None
quiet_takes (recv a t p) h = absurd h
quiet_takes (serve a t p) h = absurd h
quiet_takes p h = refl

record OnChannels (p : Process) (v : Move) : Type 0 where
  put : put_of v ≡ puts_on p
  take : take_of v ≡ takes_on p

on_channels : {k : ℕ} {ss : List Shape} {vs : List Message} {p : Process} {v : Move} → MovesByForm k ss vs p v → OnChannels p v
unfolding put_of take_of
on_channels {p = p} (moves_stays q s) = record { put = sym (quiet_puts p q); take = sym (quiet_takes p q) }
on_channels (moves_puts e c) = record { put = ap puts_on (sym e); take = ap takes_on (sym e) }
on_channels (moves_takes e o) = record { put = ap puts_on (sym e); take = ap takes_on (sym e) }
on_channels (moves_takes_again e o) = record { put = ap puts_on (sym e); take = ap takes_on (sym e) }
on_channels {p = p} (moves_one q c l f) = record { put = sym (quiet_puts p q); take = sym (quiet_takes p q) }
on_channels {p = p} (moves_two q c d l f) = record { put = sym (quiet_puts p q); take = sym (quiet_takes p q) }
on_channels {p = p} (moves_on q l f) = record { put = sym (quiet_puts p q); take = sym (quiet_takes p q) }
on_channels {p = p} (moves_shows q l f) = record { put = sym (quiet_puts p q); take = sym (quiet_takes p q) }
on_channels {p = p} (moves_makes q l f) = record { put = sym (quiet_puts p q); take = sym (quiet_takes p q) }
on_channels {p = p} (moves_forks q l f g) = record { put = sym (quiet_puts p q); take = sym (quiet_takes p q) }

pub puts_told : {ms : List Message} {ls : List Link} (p : Place) → IsPlace ms ls p → Channel ms (out_channel p.wait) (puts_on (place_process ms ls p))
puts_told {ms} p h = let a = acting p h in subst (Channel ms (out_channel p.wait)) (on_channels a.moves).put (waits_tell a.waits).put

pub takes_told : {ms : List Message} {ls : List Link} (p : Place) → IsPlace ms ls p → Channel ms (in_channel p.wait) (takes_on (place_process ms ls p))
takes_told {ms} p h = let a = acting p h in subst (Channel ms (in_channel p.wait)) (on_channels a.moves).take (waits_tell a.waits).take

-- where no message has two numbers, the numbers are equal where the channels are
pub same_channel : {ms : List Message} {o : Option ℕ} {x : Option Message} (c : ℕ) (m : Message) → AllDiffer ms → slice_get ms c ≡ Some m → Channel ms o x → is_channel m x ≡ is_on c o
same_channel c m d e no_channel = refl
same_channel {ms} c m d e (a_channel {c = k} {m = n} f) =
    truths (same_message m n) (c == k) (λ g. eq-eqb c k (d.one c k m e (f ∙ ap Some (sym (same_true m n g))))) (λ g. let h : m ≡ n = some_is (sym e ∙ ap (slice_get ms) (eqb-true c k g) ∙ f) in ap (same_message m) (sym h) ∙ same_self m)

module _ {ms : List Message} {ls : List Link} (differ : AllDiffer ms) where
  others : {p : Place} {ps : List Place} → ArePlaces ms ls (p ∷ ps) → ArePlaces ms ls ps
  others h = record { each = λ i q e. h.each (suc i) q e }

  talks_told : (c : ℕ) (m : Message) → slice_get ms c ≡ Some m → (i j : ℕ) (ps : List Place) → ArePlaces ms ls ps → talks_to m i j (processes ms ls ps) ≡ map (talk i) (places_on in_channel c j (waits_of ps))
  talks_told c m e i j [] h = refl
  talks_told c m e i j (p ∷ ps) h =
      by (is_channel m (takes_on (place_process ms ls p))) (is_on c (in_channel p.wait)) (same_channel c m differ e (takes_told p (h.each 0 p refl))) (talks_told c m e i (suc j) ps (others h))
    where
      by : (y z : Bool) → y ≡ z → talks_to m i (suc j) (processes ms ls ps) ≡ map (talk i) (places_on in_channel c (suc j) (waits_of ps)) → (if y then talk i j ∷ talks_to m i (suc j) (processes ms ls ps) else talks_to m i (suc j) (processes ms ls ps)) ≡ map (talk i) (if z then j ∷ places_on in_channel c (suc j) (waits_of ps) else places_on in_channel c (suc j) (waits_of ps))
      by true true f g = ap (λ ss. talk i j ∷ ss) g
      by true false f g = absurd (true≢false f)
      by false true f g = absurd (true≢false (sym f))
      by false false f g = g

out_still : (w : Wait) (c : ℕ) → out_channel w ≡ Some c → wait_acts w ≡ false
out_still (W.Puts a b) c e = refl
out_still w c e = absurd cc

-- the steps of a place that puts out, and of any other
pub talks_at : {ms : List Message} {ls : List Link} (i : ℕ) (ps : List Place) (p : Place) (c : ℕ) → AllDiffer ms → ArePlaces ms ls ps → IsPlace ms ls p → out_channel p.wait ≡ Some c → steps_at (processes ms ls ps) i (place_process ms ls p) ≡ map (talk i) (places_on in_channel c 0 (waits_of ps))
talks_at {ms} {ls} i ps p c d hs h e =
    ap (λ (z : Bool). if z then act i ∷ [] else talks_of (processes ms ls ps) i (puts_on (place_process ms ls p))) (acts_told p h ∙ out_still p.wait c e) ∙ by (out_channel p.wait) (puts_on (place_process ms ls p)) e (puts_told p h)
  where
    by : (o : Option ℕ) (x : Option Message) → o ≡ Some c → Channel ms o x → talks_of (processes ms ls ps) i x ≡ map (talk i) (places_on in_channel c 0 (waits_of ps))
    by _ _ e no_channel = absurd cc
    by _ _ e (a_channel {c = k} {m = m} f) = talks_told d c m (ap (slice_get ms) (sym (some_is e)) ∙ f) i 0 ps hs

pub acts_at : {ms : List Message} {ls : List Link} (i : ℕ) (ps : List Place) (p : Place) → IsPlace ms ls p → out_channel p.wait ≡ None → steps_at (processes ms ls ps) i (place_process ms ls p) ≡ (if wait_acts p.wait then act i ∷ [] else [])
acts_at {ms} {ls} i ps p h e =
    ap (λ (z : Bool). if z then act i ∷ [] else talks_of (processes ms ls ps) i (puts_on (place_process ms ls p))) (acts_told p h) ∙ ap (λ x. if wait_acts p.wait then act i ∷ [] else talks_of (processes ms ls ps) i x) (by (out_channel p.wait) (puts_on (place_process ms ls p)) e (puts_told p h))
  where
    by : (o : Option ℕ) (x : Option Message) → o ≡ None → Channel ms o x → x ≡ None
    by _ _ e no_channel = refl
    by _ _ e (a_channel f) = absurd cc

-- the same at a state
begun_is : (s : State) (i : ℕ) (p : Place) → slice_get s.index.places.items i ≡ Some p → steps_begun (pooled s).configuration i ≡ steps_at (pooled s).configuration.places i (place_process s.store.messages s.links.items p)
unfolding steps_begun
begun_is s i p e = ap (steps_by (pooled s).configuration.places i) (get_map (place_process s.store.messages s.links.items) s.index.places.items i e)

pub talks_begun : (s : State) (i : ℕ) (p : Place) (c : ℕ) → IsState s → AllDiffer s.store.messages → slice_get s.index.places.items i ≡ Some p → out_channel p.wait ≡ Some c → steps_begun (pooled s).configuration i ≡ map (talk i) (places_on in_channel c 0 (waits_of s.index.places.items))
talks_begun s i p c h d e f = begun_is s i p e ∙ talks_at i s.index.places.items p c d h.places (h.places.each i p e) f

pub acts_begun : (s : State) (i : ℕ) (p : Place) → IsState s → slice_get s.index.places.items i ≡ Some p → out_channel p.wait ≡ None → steps_begun (pooled s).configuration i ≡ (if wait_acts p.wait then act i ∷ [] else [])
acts_begun s i p h e f = begun_is s i p e ∙ acts_at i s.index.places.items p (h.places.each i p e) f

pub count_talks : (s : State) (i : ℕ) (p : Place) (c : ℕ) → IsState s → AllDiffer s.store.messages → slice_get s.index.places.items i ≡ Some p → out_channel p.wait ≡ Some c → length (places_on in_channel c 0 (waits_of s.index.places.items)) ≡ length (steps_begun (pooled s).configuration i)
count_talks s i p c h d e f = sym (ap length (talks_begun s i p c h d e f) ∙ length-map (places_on in_channel c 0 (waits_of s.index.places.items)) (talk i))

pub count_acts : (s : State) (i : ℕ) (p : Place) (z : Bool) → IsState s → slice_get s.index.places.items i ≡ Some p → out_channel p.wait ≡ None → wait_acts p.wait ≡ z → (if z then 1 else 0) ≡ length (steps_begun (pooled s).configuration i)
count_acts s i p z h e f g = by z ∙ sym (ap length (acts_begun s i p h e f ∙ ap (λ (y : Bool). if y then act i ∷ [] else []) g))
  where
    by : (z : Bool) → (if z then 1 else 0) ≡ length (if z then act i ∷ [] else [])
    by true = refl
    by false = refl

-- the step with a number
get_there : (xs : List ℕ) (k : ℕ) → k < length xs → slice_get xs k ≡ Some (get_or xs k 0)
get_there [] k h = absurd (omega arith)
get_there (x ∷ xs) zero h = refl
get_there (x ∷ xs) (suc k) h = get_there xs k (omega arith)

pub the_talk : (s : State) (i : ℕ) (p : Place) (c k : ℕ) (js : List ℕ) → IsState s → AllDiffer s.store.messages → slice_get s.index.places.items i ≡ Some p → out_channel p.wait ≡ Some c → js ≡ places_on in_channel c 0 (waits_of s.index.places.items) → k < length (steps_begun (pooled s).configuration i) → slice_get (steps_begun (pooled s).configuration i) k ≡ Some (talk i (get_or js k 0))
the_talk s i p c k js h d e f g l =
    let m = talks_begun s i p c h d e f ∙ ap (map (talk i)) (sym g) in
    let n = ap length m ∙ length-map js (talk i) in
    let b : k < length js = omega (arith, n) in
    ap (λ ss. slice_get ss k) m ∙ get_map (talk i) js k (get_there js k b)

pub the_act : (s : State) (i : ℕ) (p : Place) (k : ℕ) → IsState s → slice_get s.index.places.items i ≡ Some p → out_channel p.wait ≡ None → k < length (steps_begun (pooled s).configuration i) → slice_get (steps_begun (pooled s).configuration i) k ≡ Some (act i)
the_act s i p k h e f l = by (wait_acts p.wait) k (acts_begun s i p h e f) l
  where
    by : (z : Bool) (n : ℕ) → steps_begun (pooled s).configuration i ≡ (if z then act i ∷ [] else []) → n < length (steps_begun (pooled s).configuration i) → slice_get (steps_begun (pooled s).configuration i) n ≡ Some (act i)
    by true zero g l = ap (λ ss. slice_get ss 0) g
    by true (suc n) g l = let e = ap length g in absurd (omega (arith, e))
    by false n g l = let e = ap length g in absurd (omega (arith, e))

-- as many places as the index has
pub many_places : (s : State) → length (pooled s).configuration.places ≡ length s.index.places.items
many_places s = length-map s.index.places.items (place_process s.store.messages s.links.items)

pub few_steps : (s : State) (i : ℕ) → IsState s → i < length s.index.places.items → length (steps_begun (pooled s).configuration i) < 2 ^ 32
few_steps s i h l =
    let e = many_places s in
    let b : i < length (pooled s).configuration.places = omega (arith, e) in
    let f = few_begun (pooled s).configuration i b in
    omega (arith, e, f, h.few, h.most)

-- a walk over the places
module _ (s : State) (i : ℕ) where
  inside : i < length s.index.places.items → i < length (pooled s).configuration.places
  inside l = let e = many_places s in omega (arith, e)

  pub before_next : i < length s.index.places.items → length (steps_before (pooled s).configuration (i + 1)) ≡ length (steps_before (pooled s).configuration i) + length (steps_begun (pooled s).configuration i)
  before_next l = let z : i + 1 ≡ suc i = omega arith in ap (λ n. length (steps_before (pooled s).configuration n)) z ∙ length_more (pooled s).configuration i (inside l)

  pub next_fits : IsState s → i < length s.index.places.items → length (steps_before (pooled s).configuration i) + length (steps_begun (pooled s).configuration i) < 2 ^ 64
  next_fits h l =
      let e = many_places s in
      let a = length_more (pooled s).configuration i (inside l) in
      let f : length (steps_before (pooled s).configuration (suc i)) < 2 ^ 64 = before_fits (pooled s).configuration (suc i) (let b : suc i ≤ length (pooled s).configuration.places = omega (arith, e) in b) (omega (arith, e, h.few, h.most)) in
      omega (arith, a, f)

  pub before_end : length s.index.places.items ≤ i → i ≤ length s.index.places.items → length (steps_before (pooled s).configuration i) ≡ length (ready_steps (pooled s).configuration)
  before_end l h =
      let e = many_places s in
      let z : i ≡ length (pooled s).configuration.places = omega (arith, e) in
      ap (λ n. length (steps_before (pooled s).configuration n)) z ∙ ap length (before_all (pooled s).configuration)

  pub found : (j k : ℕ) (x : Step) → i < length s.index.places.items → j < length (steps_begun (pooled s).configuration i) → k ≡ length (steps_before (pooled s).configuration i) + j → slice_get (steps_begun (pooled s).configuration i) j ≡ Some x → slice_get (ready_steps (pooled s).configuration) k ≡ Some x
  found j k x l h e f = get_begun (pooled s).configuration i j k (inside l) h e ∙ f
