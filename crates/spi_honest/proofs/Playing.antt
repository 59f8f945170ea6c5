-- A line of one role, told on a stage.
use Rattle.std.proofs.Common.{◌≡◌, ℕ, zero, suc, ◌+◌, ◌≤◌, List, [], ◌∷◌, ◌++◌, length, take, drop, slice_get, get_or, refl, sym, ap, ◌∙◌, subst, arith, Option, Some, Result, Ok, Err, ◌⊎◌, inl, inr, ⊎_elim}
use Rattle.std.specs.Prelude.{IfErr}
use Rattle.std.proofs.lemmas.Option.{get_or_from_slice_get}
use Rattle.spi_tree.specs.declared.tree.SWord.{SWord}
use Rattle.spi_narrate.specs.Narrations as n
use Rattle.spi_term.proofs.Lists.{get_at, in_cases}
use Rattle.spi_run.specs.Reduction.{Configuration, Step, act, Event, Takes}
use Rattle.spi_replay.specs.Stepping.{Pooled, IsTaken, largest, bound_by}
use Rattle.spi_scope.specs.Scope.{Word}
use Rattle.spi_scope.specs.StandsFor.{Meant}
use Rattle.spi_honest.specs.declared.stage.Stage.{Stage}
use Rattle.spi_honest.specs.declared.fault.HonestFault.{HonestFault}
use Rattle.spi_honest.specs.declared.fault.HonestFault.TheVariants.{LineNotReady, NarratedTooLarge, NoMemory}
use Rattle.spi_honest.specs.Narrated.{Told, free_of}
use Rattle.spi_honest.specs.Roles.{IsRole, IsTellable}
use Rattle.spi_honest.specs.Standing.{AreApart, Locates}
use Rattle.spi_honest.specs.Honest.{LineIsWrongAt, IsNotReady, IsTooLarge, HasHonestFault}
use Rattle.spi_honest.specs.Progress.{Progress}
use Rattle.spi_honest.specs.Stages.{TookStep, IsRoomy, IsStepRefused, IsRoleAt, ToldTo, stage_steps, events_in, IsLocalAt}
use Rattle.spi_rules.proofs.Typing.{at_below}
use Rattle.spi_honest.proofs.Settled.{apart_of, at_in}
use Rattle.spi_honest.proofs.Telling.{LocalTold, local_told, local_not_ready, local_progress}

pub if_err : {T E : Type 0} {P Q : E → Type 0} (r : Result T E) → ((e : E) → P e → Q e) → IfErr r P → IfErr r Q
if_err (Ok x) f h = tt
if_err (Err e) f h = f e h

-- an element of a list cuts it
pub dropped : {A : Type 0} (xs : List A) (i : ℕ) {x : A} → slice_get xs i ≡ Some x → drop i xs ≡ x ∷ drop (suc i) xs
dropped [] i e = absurd cc
dropped (y ∷ ys) zero {x} e = let f : y ≡ x = cc in ap (λ z. z ∷ ys) f
dropped (y ∷ ys) (suc i) e = dropped ys i e

pub taken : {A : Type 0} (xs : List A) (i : ℕ) {x : A} → slice_get xs i ≡ Some x → take (suc i) xs ≡ take i xs ++ x ∷ []
taken [] i e = absurd cc
taken (y ∷ ys) zero {x} e = let f : y ≡ x = cc in ap (λ z. z ∷ []) f
taken (y ∷ ys) (suc i) e = ap (λ l. y ∷ l) (taken ys i e)

taken_many : {A : Type 0} (xs : List A) (i : ℕ) {x : A} → slice_get xs i ≡ Some x → length (take i xs) ≡ i
taken_many [] i e = absurd cc
taken_many (y ∷ ys) zero e = refl
taken_many (y ∷ ys) (suc i) e = ap suc (taken_many ys i e)

pub one_more : (i : ℕ) → suc i ≡ i + 1
one_more i = omega arith

pub role_at : {roles : List SWord} {w : Word} (j : ℕ) → IsRoleAt roles w j → IsRole roles w
role_at {roles} {w} j r = record { role = r.0; is = at_in (get_at roles j r.1); word = r.2 }

pub place_read : {roles : List SWord} {place : Word → ℕ} {is : List ℕ} {w : Word} (j p : ℕ) → Locates roles place is → IsRoleAt roles w j → p ≡ get_or is j p → p ≡ place w
place_read {place = place} {is} j p h r e = e ∙ get_or_from_slice_get is j (place r.0.word) p (h.each j r.0 r.1) ∙ ap place r.2

module _ (x : n.Narration) (file : Meant) (at : ℕ) (l : n.Line) (here : slice_get x.lines at ≡ Some l) where
  pub told_here : {pool : Pooled} {steps : List Step} {events : List Event} {is : List ℕ} → Progress x file (take at x.lines) (drop at x.lines) pool steps events is → Progress x file (take at x.lines) (l ∷ drop (suc at) x.lines) pool steps events is
  told_here {pool} {steps} {events} {is} h = subst (λ ls. Progress x file (take at x.lines) ls pool steps events is) (dropped x.lines at here) h

  pub told_then : {pool : Pooled} {steps steps' : List Step} {events events' : List Event} {is is' : List ℕ} → steps ≡ steps' → events ≡ events' → is ≡ is' → Progress x file (take at x.lines ++ l ∷ []) (drop (suc at) x.lines) pool steps events is → Progress x file (take (at + 1) x.lines) (drop (at + 1) x.lines) pool steps' events' is'
  told_then {pool} {steps} {steps'} {events} {events'} {is} {is'} a b c h =
      subst (λ k. Progress x file (take k x.lines) (drop k x.lines) pool steps' events' is') (one_more at)
      (subst (λ ls. Progress x file ls (drop (suc at) x.lines) pool steps' events' is') (sym (taken x.lines at here))
      (subst (λ z. Progress x file (take at x.lines ++ l ∷ []) (drop (suc at) x.lines) pool steps' events' z) c
      (subst (λ z. Progress x file (take at x.lines ++ l ∷ []) (drop (suc at) x.lines) pool steps' z is) b
      (subst (λ z. Progress x file (take at x.lines ++ l ∷ []) (drop (suc at) x.lines) pool z events is) a h))))

  pub before_few : IsTellable x → length (take at x.lines) ≤ 200
  before_few ok = let e = taken_many x.lines at here in let b = at_below (get_at x.lines at here) in omega (arith, e, b, ok.lines)

  pub wrong_here : {pool : Pooled} {steps : List Step} {events : List Event} {is : List ℕ} (k : ℕ) (IsWrong : Told → n.Line → Type 0) → k ≡ at → (h : Progress x file (take at x.lines) (l ∷ drop (suc at) x.lines) pool steps events is) → IsWrong h.told l → LineIsWrongAt x k IsWrong
  wrong_here {events = events} k IsWrong e h w = record {
    before = take at x.lines;
    here = l;
    after = drop (suc at) x.lines;
    cut = h.cut;
    number = taken_many x.lines at here ∙ sym e;
    events = events;
    told = h.told;
    narrates = h.narrates;
    wrong = w;
  }

module _ (x : n.Narration) (file : Meant) (at j : ℕ) (old : Stage) (ok : IsTellable x) (line : IsLocalAt x at j) (told : ToldTo x file at old) (p : ℕ) (read : p ≡ get_or old.places.items j p) where
  h : Progress x file (take at x.lines) (n.local line.span line.who line.prefix ∷ drop (suc at) x.lines) old.pool (stage_steps old) (events_in old) old.places.items
  h = told_here x file at (n.local line.span line.who line.prefix) line.here told

  once : AreApart x.roles
  once = apart_of x.roles ok.distinct

  k : IsRole x.roles line.who.word
  k = role_at j line.role

  place_is : p ≡ h.place line.who.word
  place_is = place_read j p h.located line.role read

  its_step : act p ≡ act (h.place line.who.word)
  its_step = ap act place_is

  told_by : {e : Option Event} {d : Configuration} → Takes old.pool.configuration (act p) e d → LocalTold line.span line.who line.prefix once k h e d
  told_by {e} {d} t = local_told line.span line.who line.prefix once k h (subst (λ s. Takes old.pool.configuration s e d) its_step t)

  pub local_roomy : IsRoomy old.pool (act p)
  local_roomy = record {
    inside = λ i m. ⊎_elim (λ e. let s = h.stands.there k.role k.is in let b = at_below s.there in let z = e ∙ place_is ∙ ap h.place (sym k.word) in omega (arith, b, z)) (λ a. elim a [ ]) (in_cases m);
    room = λ e d t. let a = (told_by t).many in let f = before_few x file at (n.local line.span line.who line.prefix) line.here ok in omega (arith, a, f, h.few, h.most);
  }

  pub local_ok : {new : Stage} → TookStep old new (act p) → ToldTo x file (at + 1) new
  local_ok {new} t =
      told_then x file at (n.local line.span line.who line.prefix) line.here (ap (λ s. stage_steps old ++ s ∷ []) (sym its_step) ∙ sym t.steps) (sym t.events) (sym t.places)
      (local_progress line.span line.who line.prefix once k h (subst (λ s. IsTaken old.pool s t.event new.pool) its_step t.taken))

  bound_is : largest (bound_by old.pool.configuration (act p)) ≡ largest (bound_by old.pool.configuration (act (h.place line.who.word)))
  bound_is = ap (λ s. largest (bound_by old.pool.configuration s)) its_step

  local_refused : (f : HonestFault) → IsStepRefused old.pool (act p) at f → HasHonestFault x f
  local_refused (LineNotReady m) r =
      wrong_here x file at (n.local line.span line.who line.prefix) line.here m (IsNotReady (free_of x)) r.0 h
      (local_not_ready line.span line.who line.prefix once k h (λ e d t. r.1 (e, d, subst (λ s. Takes old.pool.configuration s e d) (sym its_step) t)))
  local_refused (NarratedTooLarge m nodes) r =
      let a = told_by r.1.2 in
      wrong_here x file at (n.local line.span line.who line.prefix) line.here m (IsTooLarge (free_of x) nodes) r.0 h
      (record { more = a.more; event = _; then = a.then; tells = a.tells; large = omega (arith, a.size, bound_is, r.2); count = r.3 ∙ ap Rattle.spi_term.specs.Spelling.stopped (bound_is ∙ a.size) })
  local_refused NoMemory r = r

  pub local_bad : (f : HonestFault) → (f ≡ NoMemory) ⊎ IsStepRefused old.pool (act p) at f → (f ≡ NoMemory) ⊎ HasHonestFault x f
  local_bad f r = ⊎_elim (λ e. inl e) (λ r. inr (local_refused f r)) r
