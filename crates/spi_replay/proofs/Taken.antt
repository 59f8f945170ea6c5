-- Steps that are taken: each has one outcome, isn't refused, and uses one name more at most.
use Rattle.std.proofs.Common.{◌≡◌, ℕ, ◌+◌, ◌<◌, ◌≤◌, List, [], ◌∷◌, ◌++◌, length, Option, Some, None, ap, ◌∙◌, sym, arith}
use Rattle.std.specs.Option.{option_to_list}
use Rattle.spi_term.specs.Term.{Process}
use Rattle.spi_term.proofs.Lists.{at_below}
use Rattle.spi_run.specs.Reduction.{Configuration, Step, Event, Acts, acts_split, acts_select, acts_inl, acts_inr, acts_decrypt, acts_check, acts_begin, acts_end, acts_end_many, acts_cast, acts_fresh, acts_par, Takes, takes_act, takes_talk, Runs, runs_silent, runs_event}
use Rattle.spi_run.proofs.Once.{takes_once}
use Rattle.spi_replay.specs.declared.fault.StepFault.{StepFault}
use Rattle.spi_replay.specs.Stepping.{Pooled, IsTaken, RefusesPoolStep, no_place, not_ready, too_large, too_many, FirstOutside, outside_here, outside_later, places_named}

pooled_same : (m n : Pooled) → m.configuration ≡ n.configuration → m.most ≡ n.most → m ≡ n
pooled_same m n e f = λ i. record { configuration = e i; most = f i }

-- a step has one outcome
pub taken_once : {old m n : Pooled} {s : Step} {d e : Option Event} → IsTaken old s d m → IsTaken old s e n → (d ≡ e) × (m ≡ n)
taken_once {m = m} {n = n} a b =
    let o = takes_once a.takes b.takes in
    (o.0, pooled_same m n o.1 (a.most ∙ sym b.most))

-- the places that it names are in the pool
pub one_outside : {n i k : ℕ} → i < n → FirstOutside n (i ∷ []) k → ⊥
one_outside h (outside_here m) = omega (arith, h, m)
one_outside h (outside_later m o) = elim o [ ]

pub none_outside : {n i j k : ℕ} → i < n → j < n → FirstOutside n (i ∷ j ∷ []) k → ⊥
none_outside h l (outside_here m) = omega (arith, h, m)
none_outside h l (outside_later m o) = one_outside l o

pub takes_inside : {c d : Configuration} {s : Step} {e : Option Event} {k : ℕ} → Takes c s e d → FirstOutside (length c.places) (places_named s) k → ⊥
takes_inside (takes_act a x) o = one_outside (at_below a) o
takes_inside (takes_talk a b t) o = none_outside (at_below a) (at_below b) o

-- a step that is taken isn't refused
pub taken_never : {old new : Pooled} {s : Step} {e : Option Event} {f : StepFault} → IsTaken old s e new → RefusesPoolStep old.configuration old.most s f → ⊥
taken_never t (no_place o) = takes_inside t.takes o
taken_never {new = new} {e = e} t (not_ready inside never) = never (e, new.configuration, t.takes)
taken_never t (too_large ready large) = let small = t.small in omega (arith, small, large)
taken_never {new = new} t (too_many {d = d} takes small many) =
    let o = takes_once t.takes takes in
    let few = t.few in
    let each : length new.configuration.places ≡ length d.places = ap (λ (c : Configuration). length c.places) o.1 in
    omega (arith, few, many, each)

-- it uses at most one more name
acts_names : {n n' : ℕ} {p p' : Process} {e : Option Event} {more : List Process} → Acts n p e n' p' more → n' ≤ n + 1
acts_names acts_split = omega arith
acts_names (acts_select e) = omega arith
acts_names acts_inl = omega arith
acts_names acts_inr = omega arith
acts_names (acts_decrypt e) = omega arith
acts_names (acts_check e) = omega arith
acts_names acts_begin = omega arith
acts_names acts_end = omega arith
acts_names acts_end_many = omega arith
acts_names acts_cast = omega arith
acts_names acts_fresh = omega arith
acts_names acts_par = omega arith

pub takes_names : {c d : Configuration} {s : Step} {e : Option Event} → Takes c s e d → d.names ≤ c.names + 1
takes_names (takes_act a x) = acts_names x
takes_names (takes_talk a b t) = omega arith

-- a step and a run behind it are a run
pub runs_more : {c d f : Configuration} {s : Step} {ss : List Step} {es : List Event} (e : Option Event) → Takes c s e d → Runs d ss es f → Runs c (s ∷ ss) (option_to_list e ++ es) f
runs_more None t r = runs_silent t r
runs_more (Some e) t r = runs_event t r
