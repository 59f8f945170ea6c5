-- What a pool's state does is a step of its configuration.
use Rattle.std.proofs.lemmas.Option.{slice_get_within}
use Rattle.std.proofs.Common.{◌≡◌, ℕ, zero, suc, ◌+◌, ◌<◌, ◌≤◌, Bool, true, false, List, [], ◌∷◌, ◌++◌, length, map, Option, Some, None, slice_get, slice_set, refl, sym, ap, ◌∙◌, subst, arith, ⊎_elim, ◌⊎◌, inl, inr, append-nil, length-append}
use Rattle.std.specs.Prelude.{if◌then◌else◌, Result, Ok, Err, OnErr}
use Rattle.std.proofs.lemmas.List.{map-append, map-set, length-map, length-set}
use Rattle.spi_term.specs.Lists.{At}
use Rattle.spi_term.proofs.Lists.{get_at, at_unique, some_is, get_either, get_map}
use Rattle.spi_term.specs.Term.{Message, name, Process, stop, message_size}
use Rattle.spi_term.specs.Names.{ProcessOver}
use Rattle.spi_term.specs.Spelling.{Spelling, spelled, stopped}
use Rattle.spi_intern.specs.Table.{KeepsAll, AllDiffer}
use Rattle.spi_intern.specs.Messages.{message_at}
use Rattle.spi_run.specs.Reduction.{Configuration, Step, act, talk, Event, Acts, Talks, Takes, takes_act, takes_talk}
use Rattle.spi_run.specs.Safety.{beside}
use Rattle.spi_run.proofs.Once.{takes_once}
use Rattle.spi_replay.specs.Ready.{IsReady}
use Rattle.spi_replay.specs.Stepping.{Pooled, FirstOutside, outside_here, outside_later, bound_here, by_place, handed_over, bound_by, largest, message_most, RefusesPoolStep, no_place, not_ready, too_large, too_many, event_in, IsTaken}
use Rattle.spi_replay.specs.declared.fault.StepFault.TheVariants.{NoPlace, NotReady, RunMessageTooLarge, TooManyPlaces}
use Rattle.spi_replay.specs.declared.names.Link.{Link}
use Rattle.spi_replay.specs.declared.places.Place.{Place}
use Rattle.spi_replay.specs.declared.waits.Wait.{Wait}
use Rattle.spi_replay.specs.declared.waits.Wait.TheVariants as W
use Rattle.spi_replay.specs.declared.waits.Meeting.{Meeting}
use Rattle.spi_replay.specs.declared.acting.Taken.{Taken}
use Rattle.spi_replay.specs.Holding.{held, subtree, held_at, place_process, no_link}
use Rattle.spi_replay.specs.Waiting.{wait_acts, wait_appends, wait_largest, met_by}
use Rattle.spi_replay.specs.Moves.{w_stays}
use Rattle.spi_replay.specs.Standing.{Enters, CanEnter, IsPlace, ArePlaces, processes, StandsAt}
use Rattle.spi_replay.specs.Indexed.{place_listed, place_done, places_moved, places_settled}
use Rattle.spi_replay.specs.Pools.{configuration_of, pool_of, TakenBy, again_appends}
use Rattle.spi_replay.proofs.Indexing.{get_other}
use Rattle.spi_replay.proofs.Opening.{held_first}
use Rattle.spi_replay.proofs.Subtrees.{root_tree, root_follows}
use Rattle.spi_intern.proofs.Sized.{at_message}
use Rattle.spi_replay.proofs.Awaiting.{waits_tell}
use Rattle.spi_replay.proofs.Taken.{one_outside, none_outside}
use Rattle.spi_replay.proofs.Does.{acting, place_kept, process_kept, still_of, MoveOutcome, outcome_of, Meets, meets_of, no_meeting}

-- lists
map_same : {A B : Type 0} (f g : A → B) (xs : List A) → ((i : ℕ) (x : A) → slice_get xs i ≡ Some x → f x ≡ g x) → map f xs ≡ map g xs
map_same f g [] h = refl
map_same f g (x ∷ xs) h = λ i. h 0 x refl i ∷ map_same f g xs (λ j y e. h (suc j) y e) i

get_set : {A : Type 0} (xs : List A) (i j : ℕ) (x y : A) → slice_get (slice_set xs i x) j ≡ Some y → (x ≡ y) ⊎ (slice_get xs j ≡ Some y)
get_set [] i j x y e = absurd cc
get_set (z ∷ xs) zero zero x y e = inl cc
get_set (z ∷ xs) zero (suc j) x y e = inr e
get_set (z ∷ xs) (suc i) zero x y e = inr e
get_set (z ∷ xs) (suc i) (suc j) x y e = get_set xs i j x y e

set_same : {A : Type 0} (xs : List A) (i : ℕ) {x : A} → slice_get xs i ≡ Some x → slice_set xs i x ≡ xs
set_same [] i e = absurd cc
set_same (y ∷ xs) zero {x} e = let g : x ≡ y = cc in ap (λ z. z ∷ xs) g
set_same (y ∷ xs) (suc i) e = ap (λ zs. y ∷ zs) (set_same xs i e)

-- places that stay
pub places_kept : {ms ns : List Message} {ls ks : List Link} {ps : List Place} → KeepsAll ms ns → KeepsAll ls ks → ArePlaces ms ls ps → ArePlaces ns ks ps
places_kept k l h = record { each = λ i p e. place_kept k l (h.each i p e) }

pub processes_kept : {ms ns : List Message} {ls ks : List Link} {ps : List Place} → KeepsAll ms ns → KeepsAll ls ks → ArePlaces ms ls ps → processes ns ks ps ≡ processes ms ls ps
processes_kept {ms} {ns} {ls} {ks} {ps} k l h =
    map_same (place_process ns ks) (place_process ms ls) ps (λ i p e. process_kept p k l (h.each i p e))

pub pool_kept : {ms ns : List Message} {ls ks : List Link} {ps : List Place} (n most : ℕ) → KeepsAll ms ns → KeepsAll ls ks → ArePlaces ms ls ps → pool_of ns ks ps n most ≡ pool_of ms ls ps n most
pool_kept n most k l h = ap (λ qs. record { configuration = record { names = n; places = qs }; most = most }) (processes_kept k l h)

set_places : {ms : List Message} {ls : List Link} {ps : List Place} (i : ℕ) {p : Place} → ArePlaces ms ls ps → IsPlace ms ls p → ArePlaces ms ls (slice_set ps i p)
set_places {ms} {ls} {ps} i {p} h q = record { each = λ j x e. ⊎_elim (λ (f : p ≡ x). subst (IsPlace ms ls) f q) (λ f. h.each j x f) (get_set ps i j p x e) }

append_places : {ms : List Message} {ls : List Link} {ps qs : List Place} → ArePlaces ms ls ps → ArePlaces ms ls qs → ArePlaces ms ls (ps ++ qs)
append_places {ps = ps} {qs = qs} h g = record { each = λ j x e. ⊎_elim (λ f. h.each j x f) (λ (f : (k : ℕ) × (slice_get qs k ≡ Some x)). g.each f.0 x f.1) (get_either ps qs j x e) }

one_place : {ms : List Message} {ls : List Link} {p : Place} → IsPlace ms ls p → ArePlaces ms ls (p ∷ [])
one_place {ms} {ls} {p} h = record { each = at }
  where
    at : (i : ℕ) (q : Place) → slice_get (p ∷ []) i ≡ Some q → IsPlace ms ls q
    at zero q e = let f : p ≡ q = cc in subst (IsPlace ms ls) f h
    at (suc i) q e = absurd cc

list_places : {ms : List Message} {ls : List Link} (o : Option Place) → ((q : Place) → o ≡ Some q → IsPlace ms ls q) → ArePlaces ms ls (place_listed o)
list_places None h = record { each = λ i q e. absurd cc }
list_places (Some p) h = one_place (h p refl)

-- an act
pub moved_places : {ns : List Message} {ks : List Link} {ps : List Place} (i : ℕ) {p : Place} (o : Option Place) → ArePlaces ns ks ps → IsPlace ns ks p → ((q : Place) → o ≡ Some q → IsPlace ns ks q) → ArePlaces ns ks (places_moved ps i p o)
moved_places i o h g m = append_places (set_places i h g) (list_places o m)

module _ (ms : List Message) (ls : List Link) (ps : List Place) (n most i : ℕ) {p : Place} (at : slice_get ps i ≡ Some p) where
  there : At (processes ms ls ps) i (place_process ms ls p)
  there = get_at (processes ms ls ps) i (get_map (place_process ms ls) ps i at)

  bound_at : bound_by (configuration_of ms ls ps n) (act i) ≡ bound_here n (place_process ms ls p)
  bound_at = ap (by_place (bound_here n)) (get_map (place_process ms ls) ps i at)

  handed_at : (j : ℕ) → bound_by (configuration_of ms ls ps n) (talk i j) ≡ handed_over (place_process ms ls p)
  handed_at j = ap (by_place handed_over) (get_map (place_process ms ls) ps i at)

  pub inside : i < length (processes ms ls ps)
  inside = omega (arith, length-map ps (place_process ms ls), slice_get_within ps i p at)

  outside_no : (k : ℕ) → FirstOutside (length (processes ms ls ps)) (i ∷ []) k → ⊥
  outside_no k o = one_outside inside o

  outcome_at : (h : IsPlace ms ls p) → wait_acts p.wait ≡ true → MoveOutcome n (place_process ms ls p) (acting p h).move
  outcome_at h e = let a = acting p h in outcome_of n (sym (waits_tell a.waits).acts ∙ e) a.moves

  pub act_ready : IsPlace ms ls p → wait_acts p.wait ≡ true → IsReady (configuration_of ms ls ps n) (act i)
  act_ready h e = let o = outcome_at h e in (o.event, _, takes_act there o.leads.acts)

  pub act_largest : IsPlace ms ls p → wait_acts p.wait ≡ true → wait_largest ms p.wait ≡ stopped (largest (bound_by (configuration_of ms ls ps n) (act i)))
  act_largest h e =
      let a = acting p h in
      let o = outcome_at h e in
      (waits_tell a.waits).largest n ∙ ap (λ bs. stopped (largest bs)) (sym (bound_at ∙ o.leads.binds))

  pub act_outside_none : (h : IsPlace ms ls p) → wait_acts p.wait ≡ false → IsReady (configuration_of ms ls ps n) (act i) → ⊥
  act_outside_none h e r =
      let a = acting p h in
      let s = still_of (sym (waits_tell a.waits).acts ∙ e) a.moves in
      none r.2
    where
      still : {q q' : Process} {n' : ℕ} {x : Option Event} {more : List Process} → q ≡ place_process ms ls p → Acts n q x n' q' more → ⊥
      still {q' = q'} {n' = n'} {x = x} {more = more} f b =
          let a = acting p h in
          (still_of (sym (waits_tell a.waits).acts ∙ e) a.moves).still n x n' q' more (subst (λ z. Acts n z x n' q' more) f b)

      none : {x : Option Event} {d : Configuration} → Takes (configuration_of ms ls ps n) (act i) x d → ⊥
      none (takes_act b c) = still (at_unique b there) c

  pub refuse_still : IsPlace ms ls p → wait_acts p.wait ≡ false → RefusesPoolStep (configuration_of ms ls ps n) most (act i) (NotReady i)
  refuse_still h e = not_ready outside_no (act_outside_none h e)

  pub refuse_large : IsPlace ms ls p → wait_acts p.wait ≡ true → message_most < wait_largest ms p.wait → RefusesPoolStep (configuration_of ms ls ps n) most (act i) (RunMessageTooLarge (wait_largest ms p.wait))
  refuse_large h e l =
      let f = act_largest h e in
      subst (λ z. RefusesPoolStep (configuration_of ms ls ps n) most (act i) (RunMessageTooLarge z)) (sym f) (too_large (act_ready h e) (omega (arith, f)))

  pub act_small : IsPlace ms ls p → wait_acts p.wait ≡ true → wait_largest ms p.wait ≤ message_most → largest (bound_by (configuration_of ms ls ps n) (act i)) ≤ message_most
  act_small h e l = omega (arith, act_largest h e)

  pub refuse_many : IsPlace ms ls p → wait_acts p.wait ≡ true → wait_largest ms p.wait ≤ message_most → most < length ps + wait_appends p.wait → RefusesPoolStep (configuration_of ms ls ps n) most (act i) (TooManyPlaces (length ps + wait_appends p.wait))
  refuse_many h e l m =
      let a = acting p h in
      let o = outcome_at h e in
      let ts = slice_set (processes ms ls ps) i o.now ++ o.more in
      let c : length ts ≡ length ps + wait_appends p.wait = omega (arith, length-append (slice_set (processes ms ls ps) i o.now) o.more, length-set (processes ms ls ps) i o.now, length-map ps (place_process ms ls), o.count, (waits_tell a.waits).appends) in
      subst (λ z. RefusesPoolStep (configuration_of ms ls ps n) most (act i) (TooManyPlaces z)) c (too_many (takes_act there o.leads.acts) (act_small h e l) (omega (arith, c)))

pub refuse_large_by : (ms : List Message) (ls : List Link) (ps : List Place) (n most i : ℕ) {p : Place} (z : ℕ) → slice_get ps i ≡ Some p → IsPlace ms ls p → wait_acts p.wait ≡ true → z ≡ wait_largest ms p.wait → message_most < z → RefusesPoolStep (configuration_of ms ls ps n) most (act i) (RunMessageTooLarge z)
refuse_large_by ms ls ps n most i z at h e f l = subst (λ x. RefusesPoolStep (configuration_of ms ls ps n) most (act i) (RunMessageTooLarge x)) (sym f) (refuse_large ms ls ps n most i at h e (omega (arith, f)))

pub refuse_many_by : (ms : List Message) (ls : List Link) (ps : List Place) (n most i : ℕ) {p : Place} (z : ℕ) → slice_get ps i ≡ Some p → IsPlace ms ls p → wait_acts p.wait ≡ true → wait_largest ms p.wait ≤ message_most → z ≡ length ps + wait_appends p.wait → most < z → RefusesPoolStep (configuration_of ms ls ps n) most (act i) (TooManyPlaces z)
refuse_many_by ms ls ps n most i z at h e s f l = subst (λ x. RefusesPoolStep (configuration_of ms ls ps n) most (act i) (TooManyPlaces x)) (sym f) (refuse_many ms ls ps n most i at h e s (omega (arith, f)))

pub refuse_place : (ms : List Message) (ls : List Link) (ps : List Place) (n most i : ℕ) → length ps ≤ i → RefusesPoolStep (configuration_of ms ls ps n) most (act i) (NoPlace i)
refuse_place ms ls ps n most i h = no_place (outside_here (omega (arith, length-map ps (place_process ms ls))))

pub act_taken : {ms ns : List Message} {ls ks : List Link} {ps : List Place} (n most i : ℕ) (p : Place) (t : Taken) → KeepsAll ms ns → KeepsAll ls ks → ArePlaces ms ls ps → slice_get ps i ≡ Some p → wait_acts p.wait ≡ true → wait_largest ms p.wait ≤ message_most → length ps + wait_appends p.wait ≤ most → TakenBy ms ls ns ks n p t → IsTaken (pool_of ms ls ps n most) (act i) (event_in t.event) (pool_of ns ks (places_moved ps i t.now t.more) t.names most)
act_taken {ms} {ns} {ls} {ks} {ps} n most i p t k l h at e s f b =
    let w = h.each i p at in
    let o = outcome_at ms ls ps n most i at w e in
    let a = acting p w in
    let g = place_process ns ks in
    let q : processes ns ks (places_moved ps i t.now t.more) ≡ slice_set (processes ms ls ps) i (g t.now) ++ map g (place_listed t.more)
    = map-append g (slice_set ps i t.now) (place_listed t.more) ∙ ap (λ xs. xs ++ map g (place_listed t.more)) (map-set g ps i t.now ∙ ap (λ xs. slice_set xs i (g t.now)) (processes_kept k l h)) in
    let c : Takes (configuration_of ms ls ps n) (act i) (event_in t.event) (record { names = t.names; places = slice_set (processes ms ls ps) i (g t.now) ++ map g (place_listed t.more) }) = takes_act (there ms ls ps n most i at) b.acts in
    record {
      takes = subst (λ xs. Takes (configuration_of ms ls ps n) (act i) (event_in t.event) (record { names = t.names; places = xs })) (sym q) c;
      small = act_small ms ls ps n most i at w e s;
      few =
          let r = o.more in
          let u = takes_once c (takes_act (there ms ls ps n most i at) o.leads.acts) in
          let z : length (processes ns ks (places_moved ps i t.now t.more)) ≡ length (slice_set (processes ms ls ps) i o.now ++ r) = ap length q ∙ ap (λ d. length d.places) u.1 in
          omega (arith, z, length-append (slice_set (processes ms ls ps) i o.now) r, length-set (processes ms ls ps) i o.now, length-map ps (place_process ms ls), o.count, (waits_tell a.waits).appends);
      most = refl;
    }

-- the same, where the places are these
pub taken_to : {p : Pooled} {s : Step} {e : Option Event} (ns : List Message) (ks : List Link) {qs rs : List Place} (n most : ℕ) → qs ≡ rs → IsTaken p s e (pool_of ns ks rs n most) → IsTaken p s e (pool_of ns ks qs n most)
taken_to {p} {s} {e} ns ks n most g t = subst (λ (xs : List Place). IsTaken p s e (pool_of ns ks xs n most)) (sym g) t

-- a meeting
met_self : (w : Wait) (m : Meeting) → met_by w w ≡ Some m → ⊥
met_self (W.Puts i d) m e = cc
met_self w m e = cc

pub refuse_out : (ms : List Message) (ls : List Link) (ps : List Place) (n most i j : ℕ) → length ps ≤ i → RefusesPoolStep (configuration_of ms ls ps n) most (talk i j) (NoPlace i)
refuse_out ms ls ps n most i j h = no_place (outside_here (omega (arith, length-map ps (place_process ms ls))))

pub refuse_inp : (ms : List Message) (ls : List Link) (ps : List Place) (n most i j : ℕ) → i < length ps → length ps ≤ j → RefusesPoolStep (configuration_of ms ls ps n) most (talk i j) (NoPlace j)
refuse_inp ms ls ps n most i j g h =
    no_place (outside_later (omega (arith, length-map ps (place_process ms ls), g)) (outside_here (omega (arith, length-map ps (place_process ms ls), h))))

module _ (ms : List Message) (ls : List Link) (ps : List Place) (n most i j : ℕ) {p q : Place} (at : slice_get ps i ≡ Some p) (at' : slice_get ps j ≡ Some q) (h : ArePlaces ms ls ps) where
  pub refuse_apart : AllDiffer ms → met_by p.wait q.wait ≡ None → RefusesPoolStep (configuration_of ms ls ps n) most (talk i j) (NotReady i)
  refuse_apart d e = not_ready (λ k o. none_outside (inside ms ls ps n most i at) (inside ms ls ps n most j at') o) (λ r. none r.2)
    where
      apart : {x y r : Process} {more : List Process} → x ≡ place_process ms ls p → y ≡ place_process ms ls q → Talks x y r more → ⊥
      apart {y = y} {r = r} {more = more} f g t = no_meeting p q d (h.each i p at) (h.each j q at') e r more (subst (λ b. Talks (place_process ms ls p) b r more) g (subst (λ a. Talks a y r more) f t))

      none : {x : Option Event} {c : Configuration} → Takes (configuration_of ms ls ps n) (talk i j) x c → ⊥
      none (takes_talk b c t) = apart (at_unique b (there ms ls ps n most i at)) (at_unique c (there ms ls ps n most j at')) t

  module _ (m : Meeting) (e : met_by p.wait q.wait ≡ Some m) where
    abbrev pub meet : Meets ms ls p q m
    meet = meets_of p q m (h.each i p at) (h.each j q at') e

    abbrev pub result : Process
    result = if m.again then place_process ms ls q else held_at q.source.now.names (meet.datum ∷ meet.values) (spelled q.source.now.names q.source.now.process) m.body

    abbrev pub extra : List Process
    extra = if m.again then held_at q.source.now.names (meet.datum ∷ meet.values) (spelled q.source.now.names q.source.now.process) m.body ∷ [] else []

    pub talk_takes : Takes (configuration_of ms ls ps n) (talk i j) None (record { names = n; places = slice_set (slice_set (processes ms ls ps) i stop) j result ++ extra })
    talk_takes = takes_talk (there ms ls ps n most i at) (there ms ls ps n most j at') meet.talks

    pub talk_largest : stopped (message_size (message_at ms m.datum)) ≡ stopped (largest (bound_by (configuration_of ms ls ps n) (talk i j)))
    talk_largest =
        let b : bound_by (configuration_of ms ls ps n) (talk i j) ≡ meet.datum ∷ [] = handed_at ms ls ps n most i at j ∙ ap handed_over meet.is in
        let s : message_size (message_at ms m.datum) ≡ message_size meet.datum = ap message_size (at_message ms m.datum meet.number) in
        let l : largest (meet.datum ∷ []) ≡ message_size meet.datum = omega arith in
        ap stopped (s ∙ sym l ∙ ap largest (sym b))

    pub refuse_talk_large : message_most < stopped (message_size (message_at ms m.datum)) → RefusesPoolStep (configuration_of ms ls ps n) most (talk i j) (RunMessageTooLarge (stopped (message_size (message_at ms m.datum))))
    refuse_talk_large l = subst (λ z. RefusesPoolStep (configuration_of ms ls ps n) most (talk i j) (RunMessageTooLarge z)) (sym talk_largest) (too_large (None, _, talk_takes) (omega (arith, talk_largest)))

    pub talk_small : stopped (message_size (message_at ms m.datum)) ≤ message_most → largest (bound_by (configuration_of ms ls ps n) (talk i j)) ≤ message_most
    talk_small l = omega (arith, talk_largest)

    extra_many : length extra ≡ again_appends m.again
    extra_many = by m.again
      where
        by : (z : Bool) → length (if z then held_at q.source.now.names (meet.datum ∷ meet.values) (spelled q.source.now.names q.source.now.process) m.body ∷ [] else []) ≡ again_appends z
        by true = refl
        by false = refl

    pub talk_many : length (slice_set (slice_set (processes ms ls ps) i stop) j result ++ extra) ≡ length ps + again_appends m.again
    talk_many =
        omega (arith, length-append (slice_set (slice_set (processes ms ls ps) i stop) j result) extra, length-set (slice_set (processes ms ls ps) i stop) j result, length-set (processes ms ls ps) i stop, length-map ps (place_process ms ls), extra_many)

    pub refuse_talk_many : stopped (message_size (message_at ms m.datum)) ≤ message_most → most < length ps + again_appends m.again → RefusesPoolStep (configuration_of ms ls ps n) most (talk i j) (TooManyPlaces (length ps + again_appends m.again))
    refuse_talk_many s l = subst (λ z. RefusesPoolStep (configuration_of ms ls ps n) most (talk i j) (TooManyPlaces z)) talk_many (too_many talk_takes (talk_small s) (omega (arith, talk_many)))

    places_then : {ns : List Message} {ks : List Link} (now : Place) → KeepsAll ms ns → KeepsAll ls ks → place_process ns ks now ≡ held_at q.source.now.names (meet.datum ∷ meet.values) (spelled q.source.now.names q.source.now.process) m.body → slice_set (slice_set (processes ms ls ps) i stop) j result ++ extra ≡ processes ns ks (places_settled ps i p j now m.again)
    places_then {ns} {ks} now k l f = by m.again
      where
        g : Place → Process
        g x = place_process ns ks x

        gone : processes ns ks (slice_set ps i (place_done p)) ≡ slice_set (processes ms ls ps) i stop
        gone = map-set (place_process ns ks) ps i (place_done p) ∙ ap (λ xs. slice_set xs i stop) (processes_kept k l h)

        other : i ≡ j → ⊥
        other r =
            let s : p ≡ q = some_is (sym at ∙ ap (slice_get ps) r ∙ at') in
            met_self q.wait m (subst (λ (x : Place). met_by x.wait q.wait ≡ Some m) s e)

        by : (z : Bool) → slice_set (slice_set (processes ms ls ps) i stop) j (if z then place_process ms ls q else held_at q.source.now.names (meet.datum ∷ meet.values) (spelled q.source.now.names q.source.now.process) m.body) ++ (if z then held_at q.source.now.names (meet.datum ∷ meet.values) (spelled q.source.now.names q.source.now.process) m.body ∷ [] else []) ≡ processes ns ks (places_settled ps i p j now z)
        by true =
            let same : slice_set (slice_set (processes ms ls ps) i stop) j (place_process ms ls q) ≡ slice_set (processes ms ls ps) i stop = set_same (slice_set (processes ms ls ps) i stop) j (get_other (processes ms ls ps) i j stop other ∙ get_map (place_process ms ls) ps j at') in
            (λ x. same x ++ (sym f x ∷ [])) ∙ ap (λ xs. xs ++ (place_process ns ks now ∷ [])) (sym gone) ∙ sym (map-append (place_process ns ks) (slice_set ps i (place_done p)) (now ∷ []))
        by false =
            append-nil (slice_set (slice_set (processes ms ls ps) i stop) j (held_at q.source.now.names (meet.datum ∷ meet.values) (spelled q.source.now.names q.source.now.process) m.body))
            ∙ (λ x. slice_set (sym gone x) j (sym f x))
            ∙ sym (map-set (place_process ns ks) (slice_set ps i (place_done p)) j now)

    pub talk_taken : {ns : List Message} {ks : List Link} (now : Place) → KeepsAll ms ns → KeepsAll ls ks → place_process ns ks now ≡ held_at q.source.now.names (meet.datum ∷ meet.values) (spelled q.source.now.names q.source.now.process) m.body → stopped (message_size (message_at ms m.datum)) ≤ message_most → length ps + again_appends m.again ≤ most → IsTaken (pool_of ms ls ps n most) (talk i j) None (pool_of ns ks (places_settled ps i p j now m.again) n most)
    talk_taken {ns} {ks} now k l f s b =
        let z = places_then now k l f in
        record {
          takes = subst (λ xs. Takes (configuration_of ms ls ps n) (talk i j) None (record { names = n; places = xs })) z talk_takes;
          small = talk_small s;
          few = omega (arith, ap length z, talk_many);
          most = refl;
        }

pub settled_places : {ns : List Message} {ks : List Link} {ps : List Place} (i j : ℕ) (p now : Place) (z : Bool) → ArePlaces ns ks ps → IsPlace ns ks p → IsPlace ns ks now → ArePlaces ns ks (places_settled ps i p j now z)
settled_places {ns} {ks} {ps} i j p now z h w g = by z
  where
    gone : IsPlace ns ks (place_done p)
    gone = record { values = w.values; enters = w.enters; bound = w.bound; waits = w_stays }

    by : (z : Bool) → ArePlaces ns ks (places_settled ps i p j now z)
    by true = append_places (set_places i h gone) (one_place g)
    by false = set_places j (set_places i h gone) g

-- the start
pub root_held : (k : ℕ) (p : Process) → ProcessOver k p → held_at k [] (spelled k p) 0 ≡ p
root_held k p h =
    let e : k + 0 ≡ k = omega arith in
    (λ i. held name (e i) (e i) (subtree (spelled k p) 0)) ∙ ap (held name k k) (root_tree k p h) ∙ held_first k p h

pub root_enters : {ms : List Message} {ls : List Link} (sp : Spelling) → ProcessOver sp.names sp.process → Enters ms ls sp 0 0 []
root_enters sp h =
    let f = root_follows sp.names sp.process h in
    record { over = h; linked = no_link; closed = tt; shape = f.shape; there = f.there; scope = omega (arith, f.scope) }

pub root_can : {ms : List Message} {ls : List Link} (sp : Spelling) → ProcessOver sp.names sp.process → CanEnter ms ls sp 0 0
root_can sp h = record { values = []; enters = root_enters sp h }

pub refuse_talk_large_by : (ms : List Message) (ls : List Link) (ps : List Place) (n most i j : ℕ) {p q : Place} (m : Meeting) (z : ℕ) → slice_get ps i ≡ Some p → slice_get ps j ≡ Some q → ArePlaces ms ls ps → met_by p.wait q.wait ≡ Some m → z ≡ stopped (message_size (message_at ms m.datum)) → message_most < z → RefusesPoolStep (configuration_of ms ls ps n) most (talk i j) (RunMessageTooLarge z)
refuse_talk_large_by ms ls ps n most i j m z at at' h e f l = subst (λ x. RefusesPoolStep (configuration_of ms ls ps n) most (talk i j) (RunMessageTooLarge x)) (sym f) (refuse_talk_large ms ls ps n most i j at at' h m e (omega (arith, f)))

pub refuse_talk_many_by : (ms : List Message) (ls : List Link) (ps : List Place) (n most i j : ℕ) {p q : Place} (m : Meeting) (z : ℕ) → slice_get ps i ≡ Some p → slice_get ps j ≡ Some q → ArePlaces ms ls ps → met_by p.wait q.wait ≡ Some m → stopped (message_size (message_at ms m.datum)) ≤ message_most → z ≡ length ps + again_appends m.again → most < z → RefusesPoolStep (configuration_of ms ls ps n) most (talk i j) (TooManyPlaces z)
refuse_talk_many_by ms ls ps n most i j m z at at' h e s f l = subst (λ x. RefusesPoolStep (configuration_of ms ls ps n) most (talk i j) (TooManyPlaces x)) (sym f) (refuse_talk_many ms ls ps n most i j at at' h m e s (omega (arith, f)))

-- the datum has a number
pub datum_below : {ms : List Message} {ls : List Link} {ps : List Place} (i j : ℕ) {p q : Place} (m : Meeting) → slice_get ps i ≡ Some p → slice_get ps j ≡ Some q → ArePlaces ms ls ps → met_by p.wait q.wait ≡ Some m → m.datum.place < length ms
datum_below {ms} i j {p} {q} m at at' h e = let t = meets_of p q m (h.each i p at) (h.each j q at') e in slice_get_within ms m.datum.place t.datum t.number

-- the two at the start
pub two_places : {ms : List Message} {ls : List Link} {p q : Place} → IsPlace ms ls p → IsPlace ms ls q → ArePlaces ms ls (p ∷ (q ∷ []))
two_places {ms} {ls} {p} {q} h g = append_places (one_place h) (one_place g)

pub start_pool : {ms : List Message} {ls : List Link} {ps : List Place} (a b : Spelling) (p q : Place) (n k most : ℕ) → ps ≡ p ∷ (q ∷ []) → n ≡ a.names → k ≡ n → ProcessOver a.names a.process → ProcessOver b.names b.process → StandsAt ms ls a 0 [] p → StandsAt ms ls b 0 [] q → pool_of ms ls ps n most ≡ record { configuration = beside k a.process b.process; most = most }
start_pool {ms} {ls} {ps} a b p q n k most e f g h h' s r =
    let x : processes ms ls ps ≡ a.process ∷ (b.process ∷ []) = ap (processes ms ls) e ∙ (λ i. (s.process ∙ root_held a.names a.process h) i ∷ ((r.process ∙ root_held b.names b.process h') i ∷ [])) in
    λ i. record { configuration = record { names = sym g i; places = x i }; most = most }

pub on_err : {T E : Type 0} (r : Result T E) {P : Type 0} → P → OnErr r P
on_err (Ok x) h = tt
on_err (Err e) h = h
