-- One line more is told.
use Rattle.std.proofs.Common.{◌≡◌, ℕ, suc, ◌≤◌, List, [], ◌∷◌, ◌++◌, length, slice_set, refl, sym, ap, ◌∙◌, subst, arith, Option, append_assoc, length-append, option_to_list}
use Rattle.std.proofs.lemmas.List.{length-set, append-nil}
use Rattle.spi_text.specs.declared.lines.Span.{Span}
use Rattle.spi_tree.specs.declared.tree.SWord.{SWord}
use Rattle.spi_narrate.specs.Narrations as n
use Rattle.spi_run.specs.Reduction.{Configuration, Step, act, Event, Takes, Runs, runs_none}
use Rattle.spi_run.proofs.Once.{takes_once}
use Rattle.spi_replay.specs.Stepping.{Pooled, IsTaken, largest, message_most, bound_by}
use Rattle.spi_replay.proofs.Taken.{takes_names, runs_more}
use Rattle.spi_scope.specs.Scope.{Names}
use Rattle.spi_scope.specs.StandsFor.{Meant}
use Rattle.spi_honest.specs.Reading.{Map}
use Rattle.spi_honest.specs.Narrated.{giving, Told, Does, TellsLine, tells_local, Narrates, narrates_none, narrates_line, AreLinesSmall, NarratesSmall, shown_by_event, free_of}
use Rattle.spi_honest.specs.Schedule.{line_steps}
use Rattle.spi_honest.specs.Roles.{IsRole}
use Rattle.spi_honest.specs.Standing.{AreApart, StandRoles, StoppedRoles, left}
use Rattle.spi_honest.specs.Honest.{Replays, replays_none, replays_step}
use Rattle.spi_honest.specs.Progress.{Progress}
use Rattle.spi_honest.proofs.Steps.{LocalTakes, local_takes, local_back}

-- one line, or one step, at the end
small_as : {free : Names} {o p : Told} {ls : List n.Line} {es fs : List Event} → es ≡ fs → NarratesSmall free o ls es p → NarratesSmall free o ls fs p
small_as {free} {o} {p} {ls} e h = subst (λ es. NarratesSmall free o ls es p) e h

pub narrates_more : {free : Names} {o p q : Told} {ls : List n.Line} {l : n.Line} {es : List Event} {more : Map} {e : Option Event} (h : Narrates free o ls es p) → AreLinesSmall h → TellsLine free p l more e q → largest (shown_by_event more e) ≤ message_most → NarratesSmall free o (ls ++ l ∷ []) (es ++ option_to_list e) q
narrates_more {e = e} narrates_none s t g = small_as (append-nil (option_to_list e)) (record { narrates = narrates_line t narrates_none; small = (g, tt) })
narrates_more {e = e} (narrates_line {e = e'} {es = es} t' r) s t g =
    let h = narrates_more r s.1 t g in
    small_as (sym (append_assoc (option_to_list e') es (option_to_list e))) (record { narrates = narrates_line t' h.narrates; small = (s.0, h.small) })

pub replays_more : {p q r : Pooled} {ss : List Step} {s : Step} {es : List Event} {e : Option Event} → Replays p ss es q → IsTaken q s e r → Replays p (ss ++ s ∷ []) (es ++ option_to_list e) r
replays_more {p} {r = r} {s = s} {e = e} replays_none t = subst (λ es. Replays p (s ∷ []) es r) (append-nil (option_to_list e)) (replays_step t replays_none)
replays_more {p} {r = r} {s = s} {e = e} (replays_step {s = s'} {e = e'} {ss = ss} {es = es} t' h) t =
    subst (λ es. Replays p (s' ∷ (ss ++ s ∷ [])) es r) (sym (append_assoc (option_to_list e') es (option_to_list e))) (replays_step t' (replays_more h t))

pub replays_run : {p q : Pooled} {ss : List Step} {es : List Event} → Replays p ss es q → Runs p.configuration ss es q.configuration
replays_run replays_none = runs_none
replays_run (replays_step {e = e} t h) = runs_more e t.takes (replays_run h)

pub step_order : {xs : List Step} (ys : List Step) (s : Step) {zs ws : List Step} → xs ≡ ys ++ (s ∷ zs) → zs ≡ ws → xs ≡ (ys ++ s ∷ []) ++ ws
step_order ys s e f = e ∙ ap (λ z. ys ++ (s ∷ z)) f ∙ sym (append_assoc ys (s ∷ []) _)

-- a line of one role
module _ {x : n.Narration} {file : Meant} {before rest : List n.Line} {pool : Pooled} {steps : List Step} {events : List Event} {is : List ℕ} (s : Span) (who : SWord) (f : n.Prefix) (once : AreApart x.roles) (k : IsRole x.roles who.word) (h : Progress x file before (n.local s who f ∷ rest) pool steps events is) where
  local_done : {k' : ℕ} {more : Map} {e : Option Event} → Does h.told.names (h.told.has who.word) f more e k' → LocalTakes once s who f rest k h.stands pool.configuration.names more e k'
  local_done {k'} {more} {e} d = local_takes once s who f rest k h.stands (subst (λ z. Does z (h.told.has who.word) f more e k') (sym h.names) d)

  pub local_not_ready : ((e : Option Event) → (d : Configuration) → Takes pool.configuration (act (h.place who.word)) e d → ⊥) → (more : Map) (e : Option Event) (p : Told) → TellsLine (free_of x) h.told (n.local s who f) more e p → ⊥
  local_not_ready never more e p (tells_local d) = never e _ (local_done d).takes

  pub record LocalTold (e : Option Event) (d : Configuration) : Type 0 where
    pub more : Map
    pub then : Told
    pub tells : TellsLine (free_of x) h.told (n.local s who f) more e then
    pub size : largest (bound_by pool.configuration (act (h.place who.word))) ≡ largest (shown_by_event more e)
    pub names : d.names ≡ then.names
    pub few_names : d.names ≤ suc pool.configuration.names
    pub many : length d.places ≡ length pool.configuration.places
    pub stands : StandRoles x.roles h.place (left rest) then.has StoppedRoles d.places

  pub local_told : {e : Option Event} {d : Configuration} → Takes pool.configuration (act (h.place who.word)) e d → LocalTold e d
  local_told {e} {d} t =
      let b = local_back once s who f rest k h.stands t in
      let a = local_takes once s who f rest k h.stands b.does in
      let u = takes_once t a.takes in
      let now = slice_set pool.configuration.places (h.place who.word) a.now in
      let places : d.places ≡ now = ap (λ c. c.places) u.1 ∙ append-nil now in
      record {
        more = b.more;
        then = record { names = d.names; has = giving who.word b.more h.told.has };
        tells = tells_local (subst (λ z. Does z (h.told.has who.word) f b.more e d.names) h.names b.does);
        size = a.size;
        names = refl;
        few_names = let few = takes_names t in omega (arith, few);
        many = ap length places ∙ length-set pool.configuration.places (h.place who.word) a.now;
        stands = subst (λ ps. StandRoles x.roles h.place (left rest) (giving who.word b.more h.told.has) StoppedRoles ps) (sym places) a.stands;
      }

  pub local_progress : {e : Option Event} {new : Pooled} → IsTaken pool (act (h.place who.word)) e new → Progress x file (before ++ n.local s who f ∷ []) rest new (steps ++ act (h.place who.word) ∷ []) (events ++ option_to_list e) is
  local_progress {e} {new} t =
      let l = local_told t.takes in
      let z = length-append before (n.local s who f ∷ []) in
      record {
        cut = h.cut ∙ sym (append_assoc before (n.local s who f ∷ []) rest);
        told = l.then;
        place = h.place;
        narrates = narrates_more h.narrates.narrates h.narrates.small l.tells (omega (arith, l.size, t.small));
        replays = replays_more h.replays t;
        names = l.names;
        stands = l.stands;
        located = h.located;
        order = step_order steps (act (h.place who.word)) h.order (ap (λ z. line_steps h.place z rest) (sym l.many));
        few = omega (arith, l.many, h.few, z);
        few_names = omega (arith, l.few_names, h.few_names, z);
        most = t.most ∙ h.most;
      }
