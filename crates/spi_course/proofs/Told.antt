-- Courses, step by step.
use Rattle.std.proofs.Common.{◌≡◌, ◌≢◌, ◌⊎◌, inl, inr, refl, sym, ap, ◌∙◌, subst, subst₂, ℕ, suc, ◌+◌, ◌<◌, ◌≤◌, List, [], ◌∷◌, ◌++◌, append_assoc, append-nil, length, map, take, drop, get_or, Option, Some, None, arith}
use Rattle.std.proofs.Math.Seq.{take-suc, drop-cons}
use Rattle.std.proofs.lemmas.List.{length-map, length-append, map-append, take_all, take-append-drop}
use Rattle.std.specs.Prelude.{option_to_list, MatchOption}
use Rattle.spi_term.specs.declared.term.Msg.{Msg}
use Rattle.spi_term.specs.View.{message}
use Rattle.spi_run.specs.Knowledge.{shown}
use Rattle.spi_replay.specs.Ready.{IsReadyTalk}
use Rattle.spi_run.specs.declared.step.Step as program
use Rattle.spi_run.specs.declared.step.Event as declared
use Rattle.spi_run.specs.View.{step as step_of, event as event_of}
use Rattle.spi_run.specs.Reduction.{Configuration, Step, act, talk, Event, Takes, Runs, runs_none}
use Rattle.spi_term.specs.Spelling.{Spelling}
use Rattle.spi_run.specs.Safety.{beside}
use Rattle.spi_course.specs.Fit.{course_pool}
use Rattle.spi_replay.specs.declared.fault.StepFault.{StepFault}
use Rattle.spi_replay.specs.declared.fault.StepFault.TheVariants.{NoMemory as OutOfMemory}
use Rattle.spi_replay.specs.Stepping.{Pooled, RefusesPoolStep, places_most}
use Rattle.spi_replay.proofs.Taken.{runs_more, takes_names}
use Rattle.spi_course.specs.declared.course.Taken.{Taken}
use Rattle.spi_course.specs.declared.course.Course.{Course}
use Rattle.spi_course.specs.Courses.{HandsOver, IsStepTold, TellsSteps, tells_none, tells_step, steps_of, IsEndOfCourse, all_taken, one_refused, IsCourse}

-- the pool at the start
pub starts : (process opponent : Spelling) (p : Pooled) → p.configuration ≡ beside process.names process.process opponent.process → p.most ≡ places_most → p ≡ course_pool process opponent
starts process opponent p e m =
    let one : ℕ → Pooled = λ k. record { configuration = p.configuration; most = k } in
    ap one m ∙ ap (λ (c : Configuration). record { configuration = c; most = places_most }) e

-- what a step that is taken hands over
pub hands : (c d : Configuration) (s : Step) (e : Option Event) (m : Option Msg) → Takes c s e d → MatchOption m (IsReadyTalk c s → ⊥) (λ (x : Msg). IsReadyTalk c s × (shown c s ≡ message x ∷ [])) → HandsOver c s m
hands c d (act i) e None t h = refl
hands c d (act i) e (Some x) t h = absurd h.0
hands c d (talk i j) e None t h = absurd (h (e, d, t))
hands c d (talk i j) e (Some x) t h = (x, refl, h.1)

-- the steps that are told are a run
pub runs_of : {p q : Pooled} {n : ℕ} {ts : List Taken} {es : List Event} → TellsSteps p n ts es q → Runs p.configuration (steps_of ts) es q.configuration
runs_of tells_none = runs_none
runs_of (tells_step {e = e} t h) = runs_more e t.takes.takes (runs_of h)

-- there is at most one event for each step
pub few_events : {p q : Pooled} {n : ℕ} {ts : List Taken} {es : List Event} → TellsSteps p n ts es q → length es ≤ length ts
few_events tells_none = omega arith
few_events (tells_step {e = None} t h) = let few = few_events h in omega (arith, few)
few_events (tells_step {e = Some event} t h) = let few = few_events h in omega (arith, few)

pub course_few : {p q : Pooled} {steps : List Step} {c : Course} → IsCourse p steps c q → length c.events.items ≤ length steps
course_few {steps = steps} {c = c} is =
    let few = few_events is.told in
    let each = length-map c.events.items event_of in
    let taken = length-map c.taken.items (λ (t : Taken). step_of t.step) in
    let both = ap (λ (l : List Step). length l) is.split in
    let parts = length-append (steps_of c.taken.items) is.late in
    omega (arith, few, each, taken, both, parts)

-- a step more
append_told : {p q r : Pooled} {n m : ℕ} {ts : List Taken} {es : List Event} {t : Taken} {e : Option Event} → TellsSteps p n ts es q → m ≡ n + length es → IsStepTold q m t e r
    → TellsSteps p n (ts ++ t ∷ []) (es ++ option_to_list e) r
append_told {p} {r = r} {n = n} {t = t} {e = e} tells_none same told =
    let at : IsStepTold p n t e r = subst (λ k. IsStepTold p k t e r) (let same : _ ≡ n = omega (arith, same) in same) told in
    subst (λ (l : List Event). TellsSteps p n (t ∷ []) l r) (append-nil (option_to_list e)) (tells_step at tells_none)
append_told {p} {q} {r = r} {n = n} {m = m} {t = t} {e = e} (tells_step {q = mid} {t = one} {e = shown} {ts = ts} {es = es} told h) same next =
    let both = length-append (option_to_list shown) es in
    let count : m ≡ (n + length (option_to_list shown)) + length es = omega (arith, same, both) in
    subst (λ (l : List Event). TellsSteps p n (one ∷ (ts ++ t ∷ [])) l r) (sym (append_assoc (option_to_list shown) es (option_to_list e))) (tells_step told (append_told h count next))

-- the first i steps of a schedule
pub before : ℕ → List program.Step → List Step
before i steps = map step_of (take i steps)

before_more : (i : ℕ) (steps : List program.Step) (d : program.Step) → i < length steps → before (suc i) steps ≡ before i steps ++ step_of (get_or steps i d) ∷ []
unfolding before
before_more i steps d h = ap (λ (l : List program.Step). map step_of l) (take-suc steps i d h) ∙ map-append step_of (take i steps) (get_or steps i d ∷ [])

before_split : (i : ℕ) (steps : List program.Step) (d : program.Step) → i < length steps → map step_of steps ≡ before i steps ++ step_of (get_or steps i d) ∷ map step_of (drop (suc i) steps)
unfolding before
before_split i steps d h =
    ap (λ (l : List program.Step). map step_of l) (sym (take-append-drop i steps) ∙ ap (λ (l : List program.Step). take i steps ++ l) (drop-cons steps i d h))
    ∙ map-append step_of (take i steps) (get_or steps i d ∷ drop (suc i) steps)

before_all : (i : ℕ) (steps : List program.Step) → length steps ≤ i → before i steps ≡ map step_of steps
unfolding before
before_all i steps h = ap (λ (l : List program.Step). map step_of l) (take_all i steps h)

steps_more : (ts : List Taken) (t : Taken) → steps_of (ts ++ t ∷ []) ≡ steps_of ts ++ step_of t.step ∷ []
steps_more ts t = map-append (λ (u : Taken). step_of u.step) ts (t ∷ [])

-- how far a course has come
pub record Came (first : Pooled) (i : ℕ) (steps : List program.Step) (taken : List Taken) (events : List declared.Event) (now : Pooled) : Type 0 where
  pub same : steps_of taken ≡ before i steps
  pub tells : TellsSteps first 0 taken (map event_of events) now
  pub names : now.configuration.names ≤ first.configuration.names + i

pub came_none : (first : Pooled) (steps : List program.Step) (taken : List Taken) (events : List declared.Event) → taken ≡ [] → events ≡ [] → Came first 0 steps taken events first
unfolding before
came_none first steps taken events none nothing = record {
  same = ap steps_of none;
  tells = subst₂ (λ (ts : List Taken) (es : List declared.Event). TellsSteps first 0 ts (map event_of es) first) (sym none) (sym nothing) tells_none;
  names = omega arith;
}

pub came_on : (first now next : Pooled) (i : ℕ) (steps : List program.Step) (taken more : List Taken) (events shown : List declared.Event) (one : Taken) (d : program.Step) → i < length steps → one.step ≡ get_or steps i d → Came first i steps taken events now
    → more ≡ taken ++ one ∷ [] → (e : Option Event) × IsStepTold now (length events) one e next × (map event_of shown ≡ map event_of events ++ option_to_list e)
    → Came first (i + 1) steps more shown next
came_on first now next i steps taken more events shown one d h is came added (e, told, noted) =
    let count : suc i ≡ i + 1 = omega arith in
    let here : steps_of (taken ++ one ∷ []) ≡ before (i + 1) steps =
    steps_more taken one ∙ ap (λ (l : List Step). l ++ step_of one.step ∷ []) came.same ∙ ap (λ (x : program.Step). before i steps ++ step_of x ∷ []) is ∙ sym (before_more i steps d h) ∙ ap (λ (j : ℕ). before j steps) count
    in
    let number : length events ≡ 0 + length (map event_of events) = (let l = length-map events event_of in omega (arith, l)) in
    let few = takes_names told.takes.takes in
    let less = came.names in
    record {
      same = ap steps_of added ∙ here;
      tells = subst₂ (λ (ts : List Taken) (es : List Event). TellsSteps first 0 ts es next) (sym added) (sym noted) (append_told came.tells number told);
      names = omega (arith, few, less);
    }

pub came_all : (first now : Pooled) (i : ℕ) (steps : List program.Step) (course : Course) → length steps ≤ i → course.refused ≡ None → Came first i steps course.taken.items course.events.items now → IsCourse first (map step_of steps) course now
came_all first now i steps course h none came = record {
  late = [];
  split = sym (append-nil (steps_of course.taken.items) ∙ came.same ∙ before_all i steps h);
  told = came.tells;
  end = subst (λ (f : Option StepFault). IsEndOfCourse now [] f) (sym none) all_taken;
}

pub stops_at : (first now next : Pooled) (i : ℕ) (steps : List program.Step) (events : List declared.Event) (course : Course) (s d : program.Step) (fault told : StepFault) → i < length steps → s ≡ get_or steps i d → course.refused ≡ Some told → (told ≡ fault) × (fault ≢ OutOfMemory)
    → Came first i steps course.taken.items events now → (fault ≡ OutOfMemory) ⊎ (RefusesPoolStep now.configuration now.most (step_of s) fault × (next ≡ now) × (course.events.items ≡ events)) → IsCourse first (map step_of steps) course next
stops_at first now next i steps events course s d fault told h is shown (same, some) came (inl none) = absurd (some none)
stops_at first now next i steps events course s d fault told h is shown (same, some) came (inr (refuses, still, kept)) = record {
  late = step_of s ∷ map step_of (drop (suc i) steps);
  split = before_split i steps d h ∙ ap (λ (x : program.Step). before i steps ++ step_of x ∷ map step_of (drop (suc i) steps)) (sym is) ∙ ap (λ (l : List Step). l ++ step_of s ∷ map step_of (drop (suc i) steps)) (sym came.same);
  told = subst₂ (λ (es : List declared.Event) (p : Pooled). TellsSteps first 0 course.taken.items (map event_of es) p) (sym kept) (sym still) came.tells;
  end = subst₂ (λ (f : Option StepFault) (p : Pooled). IsEndOfCourse p (step_of s ∷ map step_of (drop (suc i) steps)) f) (sym (shown ∙ ap (λ (f : StepFault). Some f) same)) (sym still) (one_refused refuses);
}
