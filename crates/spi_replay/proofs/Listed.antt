-- A configuration has one list of its ready steps in their order.
use Rattle.std.proofs.Common.{◌≡◌, ℕ, zero, suc, ◌+◌, ◌<◌, ◌≤◌, Bool, true, false, List, [], ◌∷◌, ◌++◌, Option, Some, None, slice_get, refl, sym, ap, ◌∙◌, subst, arith, true≢false, ⊎_elim, ◌⊎◌, inl, inr}
use Rattle.std.specs.Prelude.{if◌then◌else◌}
use Rattle.spi_term.specs.Lists.{In, in_first, in_later}
use Rattle.spi_term.proofs.Lists.{get_at, at_get, in_cases, in_append}
use Rattle.spi_term.specs.Term.{Message, pair, in_left, in_right, enc, Process, send, recv, serve, split, select, branch, decrypt, check, begin, end, end_many, cast, fresh, par}
use Rattle.spi_intern.proofs.MessageLaws.{same_true}
use Rattle.spi_replay.proofs.Same.{same_of}
use Rattle.spi_run.specs.Reduction.{Configuration, Step, act, talk, Event, Acts, acts_split, acts_select, acts_inl, acts_inr, acts_decrypt, acts_check, acts_begin, acts_end, acts_end_many, acts_cast, acts_fresh, acts_par, Talks, talks_once, talks_again, Takes, takes_act, takes_talk}
use Rattle.spi_replay.specs.Ready.{IsReady, first_place, Before, before_place, before_input, AreOrdered, AreReady}
use Rattle.spi_replay.proofs.Chosen.{chosen, InChosen, in_chosen, chosen_in}
use Rattle.spi_replay.specs.Listing.{acts_now, puts_on, takes_on, is_channel, talks_to, talks_of, steps_at, steps_from, ready_steps}

-- no two such lists
second_place : Step → ℕ
second_place (act i) = 0
second_place (talk i j) = j

before_order : {s t : Step} → Before s t → (first_place s < first_place t) ⊎ ((first_place s ≡ first_place t) × (second_place s < second_place t))
unfolding second_place
before_order (before_place h) = inl h
before_order (before_input h) = inr (refl, h)

not_before : {s t : Step} → Before s t → Before t s → ⊥
not_before {s} {t} b c =
    ⊎_elim (λ (h : first_place s < first_place t). ⊎_elim (λ (g : first_place t < first_place s). omega arith) (λ (g : (first_place t ≡ first_place s) × (second_place t < second_place s)). omega (arith, g.0)) (before_order c)) (λ (h : (first_place s ≡ first_place t) × (second_place s < second_place t)). ⊎_elim (λ (g : first_place t < first_place s). omega (arith, h.0)) (λ (g : (first_place t ≡ first_place s) × (second_place t < second_place s)). omega (arith, h.1, g.1)) (before_order c)) (before_order b)

not_in_none : {s : Step} → In s [] → ⊥
not_in_none i = elim i [ ]

one_list : (ss ts : List Step) → AreOrdered ss → AreOrdered ts → ((s : Step) → In s ss → In s ts) → ((s : Step) → In s ts → In s ss) → ss ≡ ts
one_list [] [] o p f g = refl
one_list [] (t ∷ ts) o p f g = absurd (not_in_none (g t in_first))
one_list (s ∷ ss) [] o p f g = absurd (not_in_none (f s in_first))
one_list (s ∷ ss) (t ∷ ts) o p f g = let rest = one_list ss ts o.1 p.1 left right in λ i. same i ∷ rest i
  where
    same : s ≡ t
    same =
        ⊎_elim (λ e. e) (λ i. ⊎_elim (λ e. sym e) (λ j. absurd (not_before (p.0 s i) (o.0 t j))) (in_cases (g t in_first))) (in_cases (f s in_first))

    left : (x : Step) → In x ss → In x ts
    left x i = ⊎_elim (λ e. absurd (let b = subst (Before s) (e ∙ sym same) (o.0 x i) in not_before b b)) (λ j. j) (in_cases (f x (in_later i)))

    right : (x : Step) → In x ts → In x ss
    right x i = ⊎_elim (λ e. absurd (let b = subst (Before t) (e ∙ same) (p.0 x i) in not_before b b)) (λ j. j) (in_cases (g x (in_later i)))

pub one_order : (c : Configuration) (ss ts : List Step) → AreReady c ss → AreReady c ts → ss ≡ ts
one_order c ss ts a b = one_list ss ts a.ordered b.ordered (λ s i. (b.ready s).1 ((a.ready s).0 i)) (λ s i. (a.ready s).1 ((b.ready s).0 i))

-- acts by the test
pub acts_true : {n n' : ℕ} {p q : Process} {e : Option Event} {more : List Process} → Acts n p e n' q more → acts_now p ≡ true
acts_true acts_split = refl
acts_true (acts_select e) = same_of e
acts_true acts_inl = refl
acts_true acts_inr = refl
acts_true (acts_decrypt e) = same_of e
acts_true (acts_check e) = same_of e
acts_true acts_begin = refl
acts_true acts_end = refl
acts_true acts_end_many = refl
acts_true acts_cast = refl
acts_true acts_fresh = refl
acts_true acts_par = refl

pub record Acted (n : ℕ) (p : Process) : Type 0 where
  pub event : Option Event
  pub names : ℕ
  pub now : Process
  pub more : List Process
  pub acts : Acts n p event names now more

acted : {n n' : ℕ} {p q : Process} {e : Option Event} {more : List Process} → Acts n p e n' q more → Acted n p
acted {n' = n'} {q = q} {e = e} {more = more} a = record { event = e; names = n'; now = q; more = more; acts = a }

pub true_acts : (n : ℕ) (p : Process) → acts_now p ≡ true → Acted n p
true_acts n (split (pair a b) t u p) e = acted acts_split
true_acts n (select (pair a b) t c u p) e = acted (acts_select (same_true a c e))
true_acts n (branch (in_left a) t p u q) e = acted acts_inl
true_acts n (branch (in_right a) t p u q) e = acted acts_inr
true_acts n (decrypt (enc a k) t j p) e = acted (acts_decrypt (same_true k j e))
true_acts n (check a b p) e = acted (acts_check (same_true a b e))
true_acts n (begin a p) e = acted acts_begin
true_acts n (end a p) e = acted acts_end
true_acts n (end_many a p) e = acted acts_end_many
true_acts n (cast a t p) e = acted acts_cast
true_acts n (fresh t p) e = acted acts_fresh
true_acts n (par p q) e = acted acts_par
true_acts n p e = absurd (true≢false (sym e))

-- meetings by the test
pub record Talked (p q : Process) : Type 0 where
  pub now : Process
  pub more : List Process
  pub talks : Talks p q now more

talked : (a b : Message) (q : Process) → is_channel a (takes_on q) ≡ true → Talked (send a b) q
talked a b (recv c t p) e = record { now = _; more = _; talks = talks_once (same_true a c e) }
talked a b (serve c t p) e = record { now = _; more = _; talks = talks_again (same_true a c e) }
talked a b q e = absurd (true≢false (sym e))

true_talks : (c : Message) (p q : Process) → puts_on p ≡ Some c → is_channel c (takes_on q) ≡ true → Talked p q
true_talks c (send a b) q e f = talked a b q (ap (λ m. is_channel m (takes_on q)) (one e) ∙ f)
  where
    one : {x y : Message} → Some x ≡ Some y → x ≡ y
    one g = cc
true_talks c p q e f = absurd cc

record TalksOn (p q : Process) : Type 0 where
  pub channel : Message
  pub puts : puts_on p ≡ Some channel
  pub takes : is_channel channel (takes_on q) ≡ true
  pub quiet : acts_now p ≡ false

talks_true : {p q r : Process} {more : List Process} → Talks p q r more → TalksOn p q
talks_true (talks_once {a} e) = record { channel = a; puts = refl; takes = same_of e; quiet = refl }
talks_true (talks_again {a} e) = record { channel = a; puts = refl; takes = same_of e; quiet = refl }

-- what stands in the lists
talks_chosen : (c : Message) (i j : ℕ) (qs : List Process) → talks_to c i j qs ≡ chosen (λ q. is_channel c (takes_on q)) (talk i) j qs
talks_chosen c i j [] = refl
talks_chosen c i j (q ∷ qs) = ap (λ ss. if is_channel c (takes_on q) then talk i j ∷ ss else ss) (talks_chosen c i (suc j) qs)

in_talks : (c : Message) (i j : ℕ) (qs : List Process) (s : Step) → In s (talks_to c i j qs) → InChosen (λ q. is_channel c (takes_on q)) (talk i) j qs s
in_talks c i j qs s h = in_chosen (λ q. is_channel c (takes_on q)) (talk i) j qs s (subst (In s) (talks_chosen c i j qs) h)

talks_in : (c : Message) (i j k : ℕ) (qs : List Process) (q : Process) → slice_get qs k ≡ Some q → is_channel c (takes_on q) ≡ true → In (talk i (j + k)) (talks_to c i j qs)
talks_in c i j k qs q e t = subst (In (talk i (j + k))) (sym (talks_chosen c i j qs)) (chosen_in (λ p. is_channel c (takes_on p)) (talk i) j k qs q e t)

left_in : {s : Step} {xs : List Step} (ys : List Step) → In s xs → In s (xs ++ ys)
left_in ys in_first = in_first
left_in ys (in_later i) = in_later (left_in ys i)

right_in : {s : Step} (xs : List Step) {ys : List Step} → In s ys → In s (xs ++ ys)
right_in [] i = i
right_in (x ∷ xs) i = in_later (right_in xs i)

record InFrom (all : List Process) (i : ℕ) (ps : List Process) (s : Step) : Type 0 where
  pub place : ℕ
  pub process : Process
  pub there : slice_get ps place ≡ Some process
  pub stands : In s (steps_at all (i + place) process)

in_from : (all : List Process) (i : ℕ) (ps : List Process) (s : Step) → In s (steps_from all i ps) → InFrom all i ps s
in_from all i [] s h = elim h [ ]
in_from all i (p ∷ ps) s h =
    let g : i ≡ i + 0 = omega arith in
    ⊎_elim (λ (k : In s (steps_at all i p)). record { place = 0; process = p; there = refl; stands = subst (λ n. In s (steps_at all n p)) g k }) (λ k. later (in_from all (suc i) ps s k)) (in_append (steps_at all i p) h)
  where
    later : InFrom all (suc i) ps s → InFrom all i (p ∷ ps) s
    later w =
        let e : suc i + w.place ≡ i + suc w.place = omega arith in
        record { place = suc w.place; process = w.process; there = w.there; stands = subst (λ n. In s (steps_at all n w.process)) e w.stands }

from_in : (all : List Process) (i k : ℕ) (ps : List Process) (p : Process) (s : Step) → slice_get ps k ≡ Some p → In s (steps_at all (i + k) p) → In s (steps_from all i ps)
from_in all i k [] p s e h = absurd cc
from_in all i zero (x ∷ ps) p s e h =
    let f : p ≡ x = cc in
    let g : i + 0 ≡ i = omega arith in
    left_in (steps_from all (suc i) ps) (subst (λ n. In s (steps_at all n x)) g (subst (λ y. In s (steps_at all (i + 0) y)) f h))
from_in all i (suc k) (x ∷ ps) p s e h =
    let f : i + suc k ≡ suc i + k = omega arith in
    right_in (steps_at all i x) (from_in all (suc i) k ps p s e (subst (λ n. In s (steps_at all n p)) f h))

-- a step that begins at a place
data StepAt (all : List Process) (i : ℕ) (p : Process) : Step → Type 0 where
  an_act : acts_now p ≡ true → StepAt all i p (act i)
  a_talk : {c : Message} {j : ℕ} {q : Process} → acts_now p ≡ false → puts_on p ≡ Some c → slice_get all j ≡ Some q → is_channel c (takes_on q) ≡ true → StepAt all i p (talk i j)

step_at : (all : List Process) (i : ℕ) (p : Process) (s : Step) → In s (steps_at all i p) → StepAt all i p s
step_at all i p s h = by (acts_now p) refl h
  where
    talks : (o : Option Message) → puts_on p ≡ o → acts_now p ≡ false → In s (talks_of all i o) → StepAt all i p s
    talks None e f h = elim h [ ]
    talks (Some c) e f h = let w = in_talks c i 0 all s h in let g : 0 + w.place ≡ w.place = omega arith in subst (StepAt all i p) (sym (w.is ∙ ap (talk i) g)) (a_talk f e w.there w.chooses)

    by : (z : Bool) → acts_now p ≡ z → In s (if z then act i ∷ [] else talks_of all i (puts_on p)) → StepAt all i p s
    by true e h = ⊎_elim (λ f. subst (StepAt all i p) (sym f) (an_act e)) (λ k. absurd (not_in_none k)) (in_cases h)
    by false e h = talks (puts_on p) refl e h

at_step : (all : List Process) (i : ℕ) (p : Process) (s : Step) → StepAt all i p s → In s (steps_at all i p)
at_step all i p _ (an_act e) = subst (λ z. In (act i) (if z then act i ∷ [] else talks_of all i (puts_on p))) (sym e) in_first
at_step all i p _ (a_talk {c} {j} {q} e f g t) =
    let z : 0 + j ≡ j = omega arith in
    subst (λ z. In (talk i j) (if z then act i ∷ [] else talks_of all i (puts_on p))) (sym e) (subst (λ o. In (talk i j) (talks_of all i o)) (sym f) (subst (λ n. In (talk i n) (talks_to c i 0 all)) z (talks_in c i 0 j all q g t)))

-- they are the ready ones
is_ready : (c : Configuration) (i : ℕ) (p : Process) (s : Step) → slice_get c.places i ≡ Some p → StepAt c.places i p s → IsReady c s
is_ready c i p _ e (an_act a) = let w = true_acts c.names p a in (w.event, _, takes_act (get_at c.places i e) w.acts)
is_ready c i p _ e (a_talk {c = m} {j = j} {q = q} a f g t) = let w = true_talks m p q f t in (None, _, takes_talk (get_at c.places i e) (get_at c.places j g) w.talks)

record BeginsStep (c : Configuration) (s : Step) : Type 0 where
  pub place : ℕ
  pub process : Process
  pub there : slice_get c.places place ≡ Some process
  pub step : StepAt c.places place process s

begins : {c d : Configuration} {s : Step} {e : Option Event} → Takes c s e d → BeginsStep c s
begins (takes_act {i = i} {p = p} a b) = record { place = i; process = p; there = at_get a; step = an_act (acts_true b) }
begins (takes_talk {i = i} {p = p} a b t) = let w = talks_true t in record { place = i; process = p; there = at_get a; step = a_talk w.quiet w.puts (at_get b) w.takes }

listed_ready : (c : Configuration) (s : Step) → In s (ready_steps c) → IsReady c s
listed_ready c s h =
    let w = in_from c.places 0 c.places s h in
    let e : 0 + w.place ≡ w.place = omega arith in
    is_ready c w.place w.process s w.there (step_at c.places w.place w.process s (subst (λ n. In s (steps_at c.places n w.process)) e w.stands))

ready_listed : (c : Configuration) (s : Step) → IsReady c s → In s (ready_steps c)
ready_listed c s r =
    let w = begins r.2 in
    let e : w.place ≡ 0 + w.place = omega arith in
    from_in c.places 0 w.place c.places w.process s w.there (subst (λ n. In s (steps_at c.places n w.process)) e (at_step c.places w.place w.process s w.step))

-- and in order
pub first_at : (all : List Process) (i : ℕ) (p : Process) (s : Step) → In s (steps_at all i p) → first_place s ≡ i
first_at all i p s h = first (step_at all i p s h)
  where
    first : {s : Step} → StepAt all i p s → first_place s ≡ i
    first (an_act e) = refl
    first (a_talk e f g t) = refl

pub first_from : (all : List Process) (i : ℕ) (ps : List Process) (s : Step) → In s (steps_from all i ps) → i ≤ first_place s
first_from all i ps s h = let w = in_from all i ps s h in omega (arith, first_at all (i + w.place) w.process s w.stands)

ordered_append : (xs ys : List Step) → AreOrdered xs → AreOrdered ys → ((x y : Step) → In x xs → In y ys → Before x y) → AreOrdered (xs ++ ys)
ordered_append [] ys o p b = p
ordered_append (x ∷ xs) ys o p b =
    ((λ t h. ⊎_elim (λ i. o.0 t i) (λ i. b x t in_first i) (in_append xs h)), ordered_append xs ys o.1 p (λ z y i j. b z y (in_later i) j))

ordered_talks : (c : Message) (i j : ℕ) (qs : List Process) → AreOrdered (talks_to c i j qs)
ordered_talks c i j [] = tt
ordered_talks c i j (q ∷ qs) = by (ordered_talks c i (suc j) qs) (is_channel c (takes_on q))
  where
    by : AreOrdered (talks_to c i (suc j) qs) → (z : Bool) → AreOrdered (if z then talk i j ∷ talks_to c i (suc j) qs else talks_to c i (suc j) qs)
    by o true = ((λ t h. let w = in_talks c i (suc j) qs t h in let l : j < suc j + w.place = omega arith in subst (Before (talk i j)) (sym w.is) (before_input l)), o)
    by o false = o

ordered_at : (all : List Process) (i : ℕ) (p : Process) → AreOrdered (steps_at all i p)
ordered_at all i p = by (acts_now p)
  where
    talks : (o : Option Message) → AreOrdered (talks_of all i o)
    talks None = tt
    talks (Some c) = ordered_talks c i 0 all

    by : (z : Bool) → AreOrdered (if z then act i ∷ [] else talks_of all i (puts_on p))
    by true = ((λ t h. absurd (not_in_none h)), tt)
    by false = talks (puts_on p)

ordered_from : (all : List Process) (i : ℕ) (ps : List Process) → AreOrdered (steps_from all i ps)
ordered_from all i [] = tt
ordered_from all i (p ∷ ps) =
    ordered_append (steps_at all i p) (steps_from all (suc i) ps) (ordered_at all i p) (ordered_from all (suc i) ps) (λ x y h k. before_place (omega (arith, first_at all i p x h, first_from all (suc i) ps y k)))

pub some_order : (c : Configuration) → AreReady c (ready_steps c)
some_order c = record { ready = λ s. ((λ h. listed_ready c s h), (λ r. ready_listed c s r)); ordered = ordered_from c.places 0 c.places }
