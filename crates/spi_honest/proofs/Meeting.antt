-- A message from one role to another, told on a stage.
use Rattle.std.proofs.Common.{◌≡◌, ℕ, suc, ◌+◌, ◌<◌, List, [], ◌∷◌, ◌++◌, length, take, drop, map, slice_get, slice_set, get_or, refl, sym, ap, ◌∙◌, subst, arith, Option, Some, None, ◌⊎◌, inl, inr, ⊎_elim, option_to_list}
use Rattle.std.proofs.lemmas.Bool.{cases_eq}
use Rattle.std.proofs.lemmas.List.{length-set, append-nil}
use Rattle.spi_tree.specs.declared.tree.SWord.{SWord}
use Rattle.spi_narrate.specs.Narrations as n
use Rattle.spi_term.proofs.Lists.{at_get, get_at, in_cases}
use Rattle.spi_term.specs.Term.{name, Process}
use Rattle.spi_term.specs.Spelling.{stopped}
use Rattle.spi_run.specs.Reduction.{act, talk, Event, Takes}
use Rattle.spi_run.proofs.Once.{takes_once}
use Rattle.spi_replay.specs.Stepping.{Pooled, IsTaken, largest, bound_by}
use Rattle.spi_scope.specs.Scope.{Word}
use Rattle.spi_scope.specs.StandsFor.{Meant}
use Rattle.spi_honest.specs.declared.stage.Stage.{Stage}
use Rattle.spi_honest.specs.declared.fault.HonestFault.{HonestFault}
use Rattle.spi_honest.specs.declared.fault.HonestFault.TheVariants.{LineNotReady, NarratedTooLarge, NoMemory}
use Rattle.spi_honest.specs.Narrated.{free_of}
use Rattle.spi_honest.specs.Schedule.{moved}
use Rattle.spi_honest.specs.Roles.{AreRolesDistinct, IsRole, IsTellable}
use Rattle.spi_honest.specs.Standing.{AreApart, Locates}
use Rattle.spi_honest.specs.Honest.{IsNotReady, IsTooLarge, HasHonestFault}
use Rattle.spi_honest.specs.Progress.{Progress}
use Rattle.spi_honest.specs.Stages.{TookStep, IsRoomy, IsStepRefused, IsRoleAt, ToldTo, stage_steps, events_in, IsPassAt, IsParted, PutsAt, TakesAt}
use Rattle.spi_rules.proofs.Typing.{at_below}
use Rattle.spi_honest.proofs.Places.{at_set, at_set_other}
use Rattle.spi_honest.proofs.Settled.{apart_of, distinct_at}
use Rattle.spi_honest.proofs.Standing.{moved_own, moved_other}
use Rattle.spi_honest.proofs.Steps.{at_places}
use Rattle.spi_honest.proofs.Passing.{can_part, parted_is, parted_now, meets_free, free_out, free_inp, pass_not_ready, BothFree, pass_takes, pass_tells, pass_size, pass_progress, now_many}
use Rattle.spi_honest.proofs.Playing.{told_here, told_then, before_few, wrong_here, role_at, place_read}

-- the place of one role is another
pub located_set : {roles : List SWord} {place : Word → ℕ} {is : List ℕ} {w : Word} (j k : ℕ) → AreRolesDistinct roles → Locates roles place is → IsRoleAt roles w j → Locates roles (moved w k place) (slice_set is j k)
located_set {roles} {place} {is} {w} j k d h r = record {
  many = length-set is j k ∙ h.many;
  each = λ i q e. ⊎_elim (same i q e) (other i q e) (cases_eq j i);
}
  where
    same : (i : ℕ) (q : SWord) → slice_get roles i ≡ Some q → j ≡ i → slice_get (slice_set is j k) i ≡ Some (moved w k place q.word)
    same i q e f =
        let g : Some r.0 ≡ Some q = sym r.1 ∙ ap (slice_get roles) f ∙ e in
        let z : r.0 ≡ q = some_one g in
        subst (λ n. slice_get (slice_set is j k) n ≡ Some k) f (at_get (at_set k (get_at is j (h.each j r.0 r.1)))) ∙ ap Some (sym (moved_own w k place q.word (sym r.2 ∙ ap (λ v. v.word) z)))
      where
        some_one : {a b : SWord} → Some a ≡ Some b → a ≡ b
        some_one e = cc

    other : (i : ℕ) (q : SWord) → slice_get roles i ≡ Some q → (j ≡ i → ⊥) → slice_get (slice_set is j k) i ≡ Some (moved w k place q.word)
    other i q e f =
        at_get (at_set_other j k f (get_at is i (h.each i q e)))
        ∙ ap Some (sym (moved_other w k place q.word (λ g. f (distinct_at roles j i d (get_at roles j r.1) (get_at roles i e) (r.2 ∙ g)))))

pub role_below : {roles : List SWord} {place : Word → ℕ} {is : List ℕ} {w : Word} (j : ℕ) → Locates roles place is → IsRoleAt roles w j → j < length is
role_below {roles} j h r = let b = at_below (get_at roles j r.1) in omega (arith, b, h.many)

-- the output comes apart
module _ (x : n.Narration) (file : Meant) (at j k i : ℕ) (old : Stage) (ok : IsTellable x) (line : IsPassAt x at j k i) (told : ToldTo x file at old) (out : ℕ) (read : out ≡ get_or old.places.items j out) where
  h : Progress x file (take at x.lines) (n.pass line.span line.from line.to line.channel line.datum line.name ∷ drop (suc at) x.lines) old.pool (stage_steps old) (events_in old) old.places.items
  h = told_here x file at (n.pass line.span line.from line.to line.channel line.datum line.name) line.here told

  once : AreApart x.roles
  once = apart_of x.roles ok.distinct

  kf : IsRole x.roles line.from.word
  kf = role_at j line.sender

  kt : IsRole x.roles line.to.word
  kt = role_at k line.receiver

  place_is : out ≡ h.place line.from.word
  place_is = place_read j out h.located line.sender read

  pub part_can : (e : Option Event) × (new : Pooled) × IsTaken old.pool (act out) e new
  part_can = (
    None,
    _,
    subst (λ z. IsTaken old.pool (act z) None (record { configuration = at_places old.pool.configuration.names (parted_now line.span line.from line.to line.channel line.datum line.name once kf kt i line.number h); most = old.pool.most })) (sym place_is)
        (can_part line.span line.from line.to line.channel line.datum line.name once kf kt i line.number h (before_few x file at (n.pass line.span line.from line.to line.channel line.datum line.name) line.here ok)),
  )

  pub part_below : {new : Stage} → TookStep old new (act out) → j < length new.places.items
  part_below t = let b = role_below j h.located line.sender in let z = ap length t.places in omega (arith, b, z)

  pub part_done : (new now : Stage) (rest : ℕ) → TookStep old new (act out) → rest ≡ length old.pool.configuration.places → now.pool ≡ new.pool → now.steps ≡ new.steps → now.events ≡ new.events → now.places.items ≡ slice_set new.places.items j rest → IsParted x file at j k i out now
  part_done new now rest t e a b c d = record {
    line = line;
    pool = old.pool;
    steps = stage_steps old;
    events = events_in old;
    is = old.places.items;
    told = h;
    event = t.event;
    taken = subst (λ p. IsTaken old.pool (act (h.place line.from.word)) t.event p) (sym a) (subst (λ z. IsTaken old.pool (act z) t.event new.pool) place_is t.taken);
    place = place_is;
    steps_now = ap (λ v. map Rattle.spi_run.specs.View.step v.items) b ∙ t.steps ∙ ap (λ z. stage_steps old ++ act z ∷ []) place_is;
    events_now = ap (λ v. map Rattle.spi_run.specs.View.event v.items) c ∙ t.events;
    located = subst (λ is. Locates x.roles (moved line.from.word (length old.pool.configuration.places) h.place) is) (sym (d ∙ (λ i. slice_set (t.places i) j (e i)))) (located_set j (length old.pool.configuration.places) ok.distinct h.located line.sender);
  }

-- the two meet
module _ (x : n.Narration) (file : Meant) (at j k i out : ℕ) (old : Stage) (ok : IsTellable x) (parted : IsParted x file at j k i out old) (inp : ℕ) (read : inp ≡ get_or old.places.items k inp) where
  abbrev l : IsPassAt x at j k i
  l = parted.line

  abbrev line_is : n.Line
  line_is = n.pass parted.line.span parted.line.from parted.line.to parted.line.channel parted.line.datum parted.line.name

  abbrev g : Progress x file (take at x.lines) (n.pass parted.line.span parted.line.from parted.line.to parted.line.channel parted.line.datum parted.line.name ∷ drop (suc at) x.lines) parted.pool parted.steps parted.events parted.is
  g = parted.told

  apart : AreApart x.roles
  apart = apart_of x.roles ok.distinct

  from_is : IsRole x.roles parted.line.from.word
  from_is = role_at j parted.line.sender

  to_is : IsRole x.roles parted.line.to.word
  to_is = role_at k parted.line.receiver

  -- where the two stand
  abbrev place_now : Word → ℕ
  place_now = moved parted.line.from.word (length parted.pool.configuration.places) parted.told.place

  inp_is : inp ≡ place_now parted.line.to.word
  inp_is = place_read k inp parted.located parted.line.receiver read

  abbrev places_now : List Process
  places_now = parted_now parted.line.span parted.line.from parted.line.to parted.line.channel parted.line.datum parted.line.name apart from_is to_is i parted.line.number parted.told

  old_is : old.pool.configuration ≡ at_places parted.pool.configuration.names places_now
  old_is = (parted_is parted.line.span parted.line.from parted.line.to parted.line.channel parted.line.datum parted.line.name apart from_is to_is i parted.line.number parted.told parted.taken.takes).1

  abbrev Both : Type 0
  Both = BothFree parted.line.span parted.line.from parted.line.to parted.line.channel parted.line.datum parted.line.name apart from_is to_is i parted.line.number parted.told

  pub meet_names : old.pool.configuration.names < 4294967295
  meet_names =
      let e = ap (λ c. c.names) old_is in
      let f = before_few x file at (n.pass parted.line.span parted.line.from parted.line.to parted.line.channel parted.line.datum parted.line.name) parted.line.here ok in
      omega (arith, e, f, parted.told.few_names)

  abbrev Met : Type 0
  Met = PutsAt (name i) old.pool.configuration.places out × TakesAt (name i) old.pool.configuration.places inp

  both_free : Met → Both
  both_free m =
      meets_free parted.line.span parted.line.from parted.line.to parted.line.channel parted.line.datum parted.line.name apart from_is to_is i parted.line.number parted.told
      (subst (λ z. PutsAt (name i) places_now z) parted.place (subst (λ c. PutsAt (name i) c.places out) old_is m.0))
      (subst (λ z. TakesAt (name i) places_now z) inp_is (subst (λ c. TakesAt (name i) c.places inp) old_is m.1))

  are_met : Both → Met
  are_met b = (
    subst (λ c. PutsAt (name i) c.places out) (sym old_is) (subst (λ z. PutsAt (name i) places_now z) (sym parted.place) (free_out parted.line.span parted.line.from parted.line.to parted.line.channel parted.line.datum parted.line.name apart from_is to_is i parted.line.number parted.told b)),
    subst (λ c. TakesAt (name i) c.places inp) (sym old_is) (subst (λ z. TakesAt (name i) places_now z) (sym inp_is) (free_inp parted.line.span parted.line.from parted.line.to parted.line.channel parted.line.datum parted.line.name apart from_is to_is i parted.line.number parted.told b)),
  )

  pub apart_bad : (Met → ⊥) → (LineNotReady at ≡ NoMemory) ⊎ HasHonestFault x (LineNotReady at)
  apart_bad d =
      inr (wrong_here x file at (n.pass parted.line.span parted.line.from parted.line.to parted.line.channel parted.line.datum parted.line.name) parted.line.here at (IsNotReady (free_of x)) refl parted.told
      (pass_not_ready parted.line.span parted.line.from parted.line.to parted.line.channel parted.line.datum parted.line.name apart from_is to_is i parted.line.number parted.told (λ b. d (are_met b))))

  its_talk : talk out inp ≡ talk (parted.told.place parted.line.from.word) (place_now parted.line.to.word)
  its_talk = λ z. talk (parted.place z) (inp_is z)

  module _ (met : Met) where
    abbrev both : Both
    both = both_free met

    abbrev now_is : List Process
    now_is = Rattle.spi_honest.proofs.Passing.now parted.line.span parted.line.from parted.line.to parted.line.channel parted.line.datum parted.line.name apart from_is to_is i parted.line.number parted.told both

    talk_takes : Takes old.pool.configuration (talk out inp) None (at_places parted.pool.configuration.names (now_is ++ []))
    talk_takes =
        subst (λ s. Takes old.pool.configuration s None (at_places parted.pool.configuration.names (now_is ++ []))) (sym its_talk)
        (subst (λ c. Takes c (talk (parted.told.place parted.line.from.word) (place_now parted.line.to.word)) None (at_places parted.pool.configuration.names (now_is ++ []))) (sym old_is)
        (pass_takes parted.line.span parted.line.from parted.line.to parted.line.channel parted.line.datum parted.line.name apart from_is to_is i parted.line.number parted.told both))

    pub meet_roomy : IsRoomy old.pool (talk out inp)
    meet_roomy = record {
      inside = λ z m. ⊎_elim (λ e. let b = at_below met.0.1 in omega (arith, e, b)) (λ r. ⊎_elim (λ e. let b = at_below met.1.1 in omega (arith, e, b)) (λ v. elim v [ ]) (in_cases r)) (in_cases m);
      room = λ e d t.
          let u = takes_once t talk_takes in
          let m : length d.places ≡ suc (length parted.pool.configuration.places) = ap (λ c. length c.places) u.1 ∙ ap length (append-nil now_is) ∙ now_many parted.line.span parted.line.from parted.line.to parted.line.channel parted.line.datum parted.line.name apart from_is to_is i parted.line.number parted.told both in
          let f = before_few x file at (n.pass parted.line.span parted.line.from parted.line.to parted.line.channel parted.line.datum parted.line.name) parted.line.here ok in
          omega (arith, m, f, parted.told.few, parted.told.most, parted.taken.most);
    }

    pub meet_ok : {new : Stage} → TookStep old new (talk out inp) → ToldTo x file (at + 1) new
    meet_ok {new} t =
        told_then x file at (n.pass parted.line.span parted.line.from parted.line.to parted.line.channel parted.line.datum parted.line.name) parted.line.here
        (ap (λ ss. ss ++ talk (parted.told.place parted.line.from.word) (place_now parted.line.to.word) ∷ []) (sym parted.steps_now) ∙ ap (λ s. stage_steps old ++ s ∷ []) (sym its_talk) ∙ sym t.steps)
        (ap (λ es. es ++ option_to_list t.event) (sym parted.events_now) ∙ sym t.events)
        (sym t.places)
        (pass_progress parted.line.span parted.line.from parted.line.to parted.line.channel parted.line.datum parted.line.name apart from_is to_is i parted.line.number parted.told both old.places.items parted.taken (subst (λ s. IsTaken old.pool s t.event new.pool) its_talk t.taken) parted.located)

    bound_is : largest (bound_by old.pool.configuration (talk out inp)) ≡ largest (bound_by (at_places parted.pool.configuration.names places_now) (talk (parted.told.place parted.line.from.word) (place_now parted.line.to.word)))
    bound_is = λ z. largest (bound_by (old_is z) (its_talk z))

    meet_refused : (f : HonestFault) → IsStepRefused old.pool (talk out inp) at f → HasHonestFault x f
    meet_refused (LineNotReady m) r = absurd (r.1 (_, _, talk_takes))
    meet_refused (NarratedTooLarge m nodes) r =
        let s = pass_size parted.line.span parted.line.from parted.line.to parted.line.channel parted.line.datum parted.line.name apart from_is to_is i parted.line.number parted.told both in
        wrong_here x file at (n.pass parted.line.span parted.line.from parted.line.to parted.line.channel parted.line.datum parted.line.name) parted.line.here m (IsTooLarge (free_of x) nodes) r.0 parted.told
        (record { more = _; event = None; then = _; tells = pass_tells parted.line.span parted.line.from parted.line.to parted.line.channel parted.line.datum parted.line.name apart from_is to_is i parted.line.number parted.told both; large = omega (arith, s, bound_is, r.2); count = r.3 ∙ ap stopped (bound_is ∙ s) })
    meet_refused NoMemory r = r

    pub meet_bad : (f : HonestFault) → (f ≡ NoMemory) ⊎ IsStepRefused old.pool (talk out inp) at f → (f ≡ NoMemory) ⊎ HasHonestFault x f
    meet_bad f r = ⊎_elim (λ e. inl e) (λ r. inr (meet_refused f r)) r
