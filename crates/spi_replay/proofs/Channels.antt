-- The places that wait on a channel.
use Rattle.std.proofs.Common.{◌≡◌, ℕ, zero, suc, ◌+◌, ◌<◌, ◌≤◌, Bool, true, false, List, [], ◌∷◌, map, length, Option, Some, None, slice_get, refl, sym, ap, ◌∙◌, subst, arith, true≢false, ⊎_elim, ◌⊎◌, inl, inr}
use Rattle.std.proofs.lemmas.Option.{slice_get_within}
use Rattle.std.specs.Prelude.{if◌then◌else◌}
use Rattle.spi_term.specs.Lists.{At, In, AreAscending}
use Rattle.spi_term.proofs.Lists.{get_at, at_get, some_is, get_map}
use Rattle.spi_term.specs.Term.{Message, same_message, Process, send, recv, serve}
use Rattle.spi_intern.specs.Table.{AllDiffer}
use Rattle.spi_intern.specs.Messages.{message_at}
use Rattle.spi_intern.specs.declared.messages.MsgId.{MsgId}
use Rattle.spi_intern.proofs.MessageLaws.{same_true, same_self}
use Rattle.spi_replay.specs.declared.names.Link.{Link}
use Rattle.spi_replay.specs.declared.places.Place.{Place}
use Rattle.spi_replay.specs.declared.waits.Wait.{Wait}
use Rattle.spi_replay.specs.declared.waits.Wait.TheVariants as W
use Rattle.spi_replay.specs.declared.running.State.{State}
use Rattle.spi_replay.specs.Holding.{place_process}
use Rattle.spi_replay.specs.Standing.{IsPlace}
use Rattle.spi_replay.specs.Pools.{pooled, IsState}
use Rattle.spi_replay.specs.Indexed.{out_channel, in_channel, is_on, places_on, waits_of}
use Rattle.spi_replay.specs.declared.listing.Side.{Side}
use Rattle.spi_replay.specs.declared.listing.Side.TheVariants as S
use Rattle.spi_replay.specs.Listing.{puts_on, takes_on, is_channel, WaitsOn}
use Rattle.spi_replay.specs.Ready.{PutsOut, puts_out, TakesIn, takes_once, takes_again, AreReadyPlaces}
use Rattle.spi_intern.proofs.Sized.{at_message, message_there}
use Rattle.spi_replay.proofs.Chosen.{chosen, InChosen, in_chosen, chosen_in}
use Rattle.spi_replay.proofs.Awaiting.{Channel, no_channel, a_channel}
use Rattle.spi_replay.proofs.Told.{puts_told, takes_told, same_channel, many_places}

-- what puts out and takes in, by its channel
puts_some : {m : Message} {q : Process} → PutsOut m q → puts_on q ≡ Some m
puts_some puts_out = refl

takes_some : {m : Message} {q : Process} → TakesIn m q → takes_on q ≡ Some m
takes_some takes_once = refl
takes_some takes_again = refl

some_puts : (m : Message) (q : Process) → puts_on q ≡ Some m → PutsOut m q
some_puts m (send a b) e = subst (λ x. PutsOut x (send a b)) (some_is e) puts_out
some_puts m q e = absurd cc

some_takes : (m : Message) (q : Process) → takes_on q ≡ Some m → TakesIn m q
some_takes m (recv a t p) e = subst (λ x. TakesIn x (recv a t p)) (some_is e) takes_once
some_takes m (serve a t p) e = subst (λ x. TakesIn x (serve a t p)) (some_is e) takes_again
some_takes m q e = absurd cc

-- the number of a channel
record Number (ms : List Message) (o : Option ℕ) (m : Message) : Type 0 where
  pub number : ℕ
  pub is : o ≡ Some number
  pub on : slice_get ms number ≡ Some m

number_of : {ms : List Message} {o : Option ℕ} {x : Option Message} {m : Message} → Channel ms o x → x ≡ Some m → Number ms o m
number_of no_channel e = absurd cc
number_of {ms} (a_channel {c = c} {m = n} f) e = record { number = c; is = refl; on = f ∙ e }

number_below : {ms : List Message} {o : Option ℕ} {x : Option Message} {c : ℕ} → Channel ms o x → o ≡ Some c → c < length ms
number_below no_channel e = absurd cc
number_below {ms} (a_channel {c = k} {m = m} f) e = let g = some_is e in let h = slice_get_within ms k m f in omega (arith, g, h)

abbrev OnChannel : Wait → ℕ → Type 0
OnChannel w c = (out_channel w ≡ Some c) ⊎ (in_channel w ≡ Some c)

one_number : (w : Wait) (c d : ℕ) → OnChannel w c → OnChannel w d → c ≡ d
one_number w c d (inl e) (inl f) = some_is (sym e ∙ f)
one_number w c d (inr e) (inr f) = some_is (sym e ∙ f)
one_number w c d (inl e) (inr f) = not_both w c d e f
  where
    not_both : (w : Wait) (c d : ℕ) → out_channel w ≡ Some c → in_channel w ≡ Some d → c ≡ d
    not_both (W.Puts a b) c d e f = absurd cc
    not_both w c d e f = absurd cc
one_number w c d (inr e) (inl f) = not_both w c d e f
  where
    not_both : (w : Wait) (c d : ℕ) → in_channel w ≡ Some c → out_channel w ≡ Some d → c ≡ d
    not_both (W.Puts a b) c d e f = absurd cc
    not_both w c d e f = absurd cc

abbrev Waiting : Message → Process → Type 0
Waiting m q = PutsOut m q ⊎ TakesIn m q

module _ {ms : List Message} {ls : List Link} (p : Place) (h : IsPlace ms ls p) where
  pub channel_below : (c : ℕ) → OnChannel p.wait c → c < length ms
  channel_below c (inl e) = number_below (puts_told p h) e
  channel_below c (inr e) = number_below (takes_told p h) e

  its_number : (m : Message) → Waiting m (place_process ms ls p) → (c : ℕ) × OnChannel p.wait c × (slice_get ms c ≡ Some m)
  its_number m (inl w) = let n = number_of (puts_told p h) (puts_some w) in (n.number, inl n.is, n.on)
  its_number m (inr w) = let n = number_of (takes_told p h) (takes_some w) in (n.number, inr n.is, n.on)

  waits_none : (m : Message) → (out_channel p.wait ≡ None) × (in_channel p.wait ≡ None) → Waiting m (place_process ms ls p) → ⊥
  waits_none m e w = let n = its_number m w in ⊎_elim (λ (f : out_channel p.wait ≡ Some n.0). let g : None ≡ Some n.0 = sym e.0 ∙ f in absurd cc) (λ (f : in_channel p.wait ≡ Some n.0). let g : None ≡ Some n.0 = sym e.1 ∙ f in absurd cc) n.1

  waits_other : (m : Message) (id : MsgId) → OnChannel p.wait id.place → same_message (message_at ms id) m ≡ false → Waiting m (place_process ms ls p) → ⊥
  waits_other m id e f w =
      let n = its_number m w in
      let z : id.place ≡ n.0 = one_number p.wait id.place n.0 e n.1 in
      let g : message_at ms id ≡ m = at_message ms id (ap (slice_get ms) z ∙ n.2) in
      true≢false (sym (ap (same_message (message_at ms id)) (sym g) ∙ same_self (message_at ms id)) ∙ f)

-- a walk over the places for one that waits on a channel
pub record NoneBefore (s : State) (m : Message) (n : ℕ) : Type 0 where
  pub none : (i : ℕ) (q : Process) → i < n → slice_get (pooled s).configuration.places i ≡ Some q → Waiting m q → ⊥

pub none_start : (s : State) (m : Message) → NoneBefore s m 0
none_start s m = record { none = λ i q l e w. omega arith }

module _ (s : State) (h : IsState s) (n : ℕ) (p : Place) (there : slice_get s.index.places.items n ≡ Some p) (m : Message) where
  none_more : (Waiting m (place_process s.store.messages s.links.items p) → ⊥) → NoneBefore s m n → NoneBefore s m (n + 1)
  none_more f b = record { none = λ i q l e w. ⊎_elim (λ (k : i < n). b.none i q k e w) (λ (k : i ≡ n). f (subst (Waiting m) (at_place i q k e) w)) (cases i l) }
    where
      cases : (i : ℕ) → i < n + 1 → (i < n) ⊎ (i ≡ n)
      cases i l = grind arith

      at_place : (i : ℕ) (q : Process) → i ≡ n → slice_get (pooled s).configuration.places i ≡ Some q → q ≡ place_process s.store.messages s.links.items p
      at_place i q k e = some_is (sym e ∙ ap (slice_get (pooled s).configuration.places) k ∙ get_map (place_process s.store.messages s.links.items) s.index.places.items n there)

  pub next_none : (out_channel p.wait ≡ None) × (in_channel p.wait ≡ None) → NoneBefore s m n → NoneBefore s m (n + 1)
  next_none e b = none_more (waits_none p (h.places.each n p there) m e) b

  pub next_other : (id : MsgId) → OnChannel p.wait id.place → same_message (message_at s.store.messages id) m ≡ false → NoneBefore s m n → NoneBefore s m (n + 1)
  next_other id e f b = none_more (waits_other p (h.places.each n p there) m id e f) b

  pub there_below : (id : MsgId) → OnChannel p.wait id.place → id.place < length s.store.messages
  there_below id e = channel_below p (h.places.each n p there) id.place e

  pub there_is : (id : MsgId) → OnChannel p.wait id.place → same_message (message_at s.store.messages id) m ≡ true → slice_get s.store.messages id.place ≡ Some m
  there_is id e f = message_there s.store.messages id (there_below id e) ∙ ap Some (same_true (message_at s.store.messages id) m f)

pub none_end : (s : State) (m : Message) (n : ℕ) → length s.index.places.items ≤ n → NoneBefore s m n → (i : ℕ) (q : Process) → slice_get (pooled s).configuration.places i ≡ Some q → PutsOut m q ⊎ TakesIn m q → ⊥
none_end s m n l b i q e w =
    let f = slice_get_within (pooled s).configuration.places i q e in
    let g = many_places s in
    b.none i q (omega (arith, f, g)) e w

-- the list of a channel's places
places_chosen : (f : Wait → Option ℕ) (c i : ℕ) (ws : List Wait) → places_on f c i ws ≡ chosen (λ w. is_on c (f w)) (λ n. n) i ws
places_chosen f c i [] = refl
places_chosen f c i (w ∷ ws) = ap (λ js. if is_on c (f w) then i ∷ js else js) (places_chosen f c (suc i) ws)

in_places : (f : Wait → Option ℕ) (c i : ℕ) (ws : List Wait) (j : ℕ) → In j (places_on f c i ws) → InChosen (λ w. is_on c (f w)) (λ (n : ℕ). n) i ws j
in_places f c i ws j h = in_chosen (λ w. is_on c (f w)) (λ n. n) i ws j (subst (In j) (places_chosen f c i ws) h)

places_in : (f : Wait → Option ℕ) (c i k : ℕ) (ws : List Wait) (w : Wait) → slice_get ws k ≡ Some w → is_on c (f w) ≡ true → In (i + k) (places_on f c i ws)
places_in f c i k ws w e t = subst (In (i + k)) (sym (places_chosen f c i ws)) (chosen_in (λ x. is_on c (f x)) (λ n. n) i k ws w e t)

ascending : (f : Wait → Option ℕ) (c i : ℕ) (ws : List Wait) → AreAscending (places_on f c i ws)
ascending f c i [] = tt
ascending f c i (w ∷ ws) = by (ascending f c (suc i) ws) (is_on c (f w))
  where
    by : AreAscending (places_on f c (suc i) ws) → (z : Bool) → AreAscending (if z then i ∷ places_on f c (suc i) ws else places_on f c (suc i) ws)
    by o true = ((λ j h. let x = in_places f c (suc i) ws j h in let e = x.is in omega (arith, e)), o)
    by o false = o

-- of an element of a list by a function
map_got : {A B : Type 0} (f : A → B) (xs : List A) (i : ℕ) (y : B) → slice_get (map f xs) i ≡ Some y → (x : A) × (slice_get xs i ≡ Some x) × (f x ≡ y)
map_got f [] i y e = absurd cc
map_got f (x ∷ xs) zero y e = (x, refl, some_is e)
map_got f (x ∷ xs) (suc i) y e = map_got f xs i y e

on_some : (c : Message) (o : Option Message) → is_channel c o ≡ true → o ≡ Some c
on_some c None e = absurd (true≢false (sym e))
on_some c (Some d) e = ap Some (sym (same_true c d e))

some_on : (c : Message) (o : Option Message) → o ≡ Some c → is_channel c o ≡ true
some_on c o e = ap (is_channel c) e ∙ same_self c

module _ (s : State) (h : IsState s) (differ : AllDiffer s.store.messages) (id : MsgId) (m : Message) (number : slice_get s.store.messages id.place ≡ Some m) where
  abbrev process : Place → Process
  process p = place_process s.store.messages s.links.items p

  module _ (P : Process → Type 0) (f : Wait → Option ℕ) (g : Process → Option Message) (told : (p : Place) → IsPlace s.store.messages s.links.items p → Channel s.store.messages (f p.wait) (g (process p))) (some : (q : Process) → P q → g q ≡ Some m) (back : (q : Process) → g q ≡ Some m → P q) where
    same_on : (i : ℕ) (p : Place) → slice_get s.index.places.items i ≡ Some p → is_channel m (g (process p)) ≡ is_on id.place (f p.wait)
    same_on i p e = same_channel id.place m differ number (told p (h.places.each i p e))

    there_then : (i : ℕ) → In i (places_on f id.place 0 (waits_of s.index.places.items)) → (q : Process) × At (pooled s).configuration.places i q × P q
    there_then i k =
        let x = in_places f id.place 0 (waits_of s.index.places.items) i k in
        let z : x.place ≡ i = (let e = x.is in omega (arith, e)) in
        let w = map_got (λ (p : Place). p.wait) s.index.places.items x.place x.item x.there in
        let a = get_map process s.index.places.items x.place w.1 in
        let t : is_on id.place (f (w.0).wait) ≡ true = ap (λ v. is_on id.place (f v)) w.2 ∙ x.chooses in
        (process w.0, get_at (pooled s).configuration.places i (ap (slice_get (pooled s).configuration.places) (sym z) ∙ a), back (process w.0) (on_some m (g (process w.0)) (same_on x.place w.0 w.1 ∙ t)))

    then_there : (i : ℕ) → (q : Process) × At (pooled s).configuration.places i q × P q → In i (places_on f id.place 0 (waits_of s.index.places.items))
    then_there i k =
        let w = map_got process s.index.places.items i k.0 (at_get k.1) in
        let t : is_on id.place (f (w.0).wait) ≡ true = sym (same_on i w.0 w.1) ∙ some_on m (g (process w.0)) (ap g w.2 ∙ some k.0 k.2) in
        let z : 0 + i ≡ i = omega arith in
        subst (λ n. In n (places_on f id.place 0 (waits_of s.index.places.items))) z (places_in f id.place 0 i (waits_of s.index.places.items) (w.0).wait (get_map (λ (p : Place). p.wait) s.index.places.items i w.1) t)

    all_there : (js : List ℕ) → js ≡ places_on f id.place 0 (waits_of s.index.places.items) → AreReadyPlaces P (pooled s).configuration.places js
    all_there js e = subst (AreReadyPlaces P (pooled s).configuration.places) (sym e) (record { each = λ i. (there_then i, then_there i); ascending = ascending f id.place 0 (waits_of s.index.places.items) })

  pub outs_are : (js : List ℕ) → js ≡ places_on out_channel id.place 0 (waits_of s.index.places.items) → AreReadyPlaces (PutsOut m) (pooled s).configuration.places js
  outs_are js e = all_there (PutsOut m) out_channel puts_on (λ p k. puts_told p k) (λ q k. puts_some k) (some_puts m) js e

  pub ins_are : (js : List ℕ) → js ≡ places_on in_channel id.place 0 (waits_of s.index.places.items) → AreReadyPlaces (TakesIn m) (pooled s).configuration.places js
  ins_are js e = all_there (TakesIn m) in_channel takes_on (λ p k. takes_told p k) (λ q k. takes_some k) (some_takes m) js e

-- where no place waits on it
no_place : (P : Process → Type 0) (qs : List Process) → ((i : ℕ) (q : Process) → slice_get qs i ≡ Some q → P q → ⊥) → AreReadyPlaces P qs []
no_place P qs f = record { each = λ i. ((λ h. absurd (none h)), (λ k. absurd (f i k.0 (at_get k.1) k.2))); ascending = tt }
  where
    none : {i : ℕ} → In i [] → ⊥
    none h = elim h [ ]

pub none_waiting : (side : Side) (m : Message) (qs : List Process) → ((i : ℕ) (q : Process) → slice_get qs i ≡ Some q → PutsOut m q ⊎ TakesIn m q → ⊥) → AreReadyPlaces (WaitsOn side m) qs []
none_waiting S.Out m qs f = no_place (PutsOut m) qs (λ i q e p. f i q e (inl p))
none_waiting S.In m qs f = no_place (TakesIn m) qs (λ i q e p. f i q e (inr p))
