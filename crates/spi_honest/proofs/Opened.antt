-- The shared names are made, and the roles are taken apart.
use Rattle.std.proofs.Common.{◌≡◌, ℕ, zero, suc, ◌+◌, ◌<◌, ◌≤◌, List, [], ◌∷◌, ◌++◌, length, slice_set, slice_get, refl, sym, ap, ◌∙◌, subst, arith, Option, None, append_assoc, length-append, option_to_list}
use Rattle.spi_tree.specs.declared.tree.SWord.{SWord}
use Rattle.spi_heading.specs.Headings.{Shared, with_shared}
use Rattle.spi_narrate.specs.Narrations as n
use Rattle.spi_term.specs.Lists.{At, at_first, at_later}
use Rattle.spi_term.proofs.Lists.{at_get}
use Rattle.spi_term.specs.Term.{name, Process}
use Rattle.spi_term.specs.Substitution.{process_put}
use Rattle.spi_run.specs.Reduction.{Step, act, Event, Acts, acts_fresh, acts_par, Takes, takes_act}
use Rattle.spi_run.proofs.Once.{takes_once}
use Rattle.spi_replay.specs.Stepping.{Pooled, IsTaken, largest, bound_here, by_place, bound_by}
use Rattle.spi_scope.specs.Scope.{Names}
use Rattle.spi_scope.specs.StandsFor.{Meant}
use Rattle.spi_weave.specs.Woven.{role_process, roles_together, sharing}
use Rattle.spi_honest.specs.Reading.{word_in, names_numbered}
use Rattle.spi_honest.specs.Narrated.{with_message, free_of, narrated_begin}
use Rattle.spi_honest.specs.Schedule.{role_steps}
use Rattle.spi_honest.specs.Holds.{Holds}
use Rattle.spi_honest.specs.Honest.{Replays, opening}
use Rattle.spi_honest.specs.Progress.{place_number, beside_stop, steps_behind, Shares, EachRole, each_none, each_role, SpreadsRoles}
use Rattle.spi_honest.proofs.Held.{holds_one}
use Rattle.spi_honest.proofs.Meant.{names_closed}
use Rattle.spi_rules.proofs.Typing.{at_last}
use Rattle.spi_honest.proofs.Alone.{given_one}
use Rattle.spi_honest.proofs.Steps.{at_places}
use Rattle.spi_honest.proofs.Telling.{replays_more, step_order}

-- one shared name more is in scope
pub with_one : (xs : Names) (before : List Shared) (s : Shared) → with_shared xs (before ++ s ∷ []) ≡ s.name.word ∷ with_shared xs before
with_one xs [] s = refl
with_one xs (b ∷ bs) s = with_one (b.name.word ∷ xs) bs s

-- the act of a shared name
module _ {x : n.Narration} {file : Meant} {before rest : List Shared} {pool : Pooled} {steps : List Step} (s : Shared) (h : Shares x file before (s ∷ rest) pool steps) where
  abbrev pub scope : Names
  scope = with_shared (free_of x) before

  abbrev pub shared_now : Process
  shared_now = process_put (name pool.configuration.names) h.holds.1

  share_takes : Takes pool.configuration (act 0) None (at_places (suc pool.configuration.names) (beside_stop (shared_now ∷ [])))
  share_takes =
      subst (λ ps. Takes (at_places pool.configuration.names ps) (act 0) None (at_places (suc pool.configuration.names) (beside_stop (shared_now ∷ [])))) (sym h.places)
      (takes_act at_first (subst (λ z. Acts pool.configuration.names z None (suc pool.configuration.names) shared_now []) (sym h.holds.2) acts_fresh))

  share_small : largest (bound_by pool.configuration (act 0)) ≡ 1
  share_small = ap (λ ps. largest (by_place (bound_here pool.configuration.names) (slice_get ps 0))) h.places ∙ ap (λ z. largest (bound_here pool.configuration.names z)) h.holds.2

  pub can_share : IsTaken pool (act 0) None (record { configuration = at_places (suc pool.configuration.names) (beside_stop (shared_now ∷ [])); most = pool.most })
  can_share = record { takes = share_takes; small = omega (arith, share_small); few = omega (arith, h.most); most = refl }

  pub share_more : {e : Option Event} {new : Pooled} → IsTaken pool (act 0) e new → (e ≡ None) × Shares x file (before ++ s ∷ []) rest new (steps ++ act 0 ∷ [])
  share_more {e} {new} t =
      let u = takes_once t.takes share_takes in
      let w : with_shared (free_of x) (before ++ s ∷ []) ≡ s.name.word ∷ scope = with_one (free_of x) before s in
      let z = length-append before (s ∷ []) in
      let ns : new.configuration.names ≡ suc pool.configuration.names = ap (λ c. c.names) u.1 in (
        u.0,
        record {
          cut = h.cut ∙ sym (append_assoc before (s ∷ []) rest);
          process = shared_now;
          places = ap (λ c. c.places) u.1;
          names = ns ∙ ap suc h.names ∙ sym (ap length w);
          holds =
              subst (λ xs. Holds (sharing rest (roles_together x.lines x.roles)) [] (word_in (names_numbered xs)) shared_now) (sym w)
              (subst (λ g. Holds (sharing rest (roles_together x.lines x.roles)) [] g shared_now) (given_one s.name (name pool.configuration.names) (names_numbered scope) ∙ ap (λ k. word_in (with_message s.name (name k) ∷ names_numbered scope)) h.names)
              (holds_one (sharing rest (roles_together x.lines x.roles)) (name pool.configuration.names) s.name.word (word_in (names_numbered scope)) h.holds.1 (names_closed scope) h.holds.3));
          replays = replays_more_silent u.0 h.replays t;
          order = step_order steps (act 0) h.order refl;
          few_names = omega (arith, ns, h.few_names, z);
          most = t.most ∙ h.most;
        },
      )
    where
      replays_more_silent : {e : Option Event} {p q r : Pooled} {ss : List Step} {k : Step} → e ≡ None → Replays p ss [] q → IsTaken q k e r → Replays p (ss ++ k ∷ []) [] r
      replays_more_silent {e} {p} {q} {r} {ss} {k} f a b = subst (λ e. Replays p (ss ++ k ∷ []) (option_to_list e) r) f (replays_more a b)

-- places and the processes in them
pub place_at : {zs : List Process} (j : ℕ) {p : Process} → At zs j p → At (beside_stop zs) (place_number j) p
place_at zero at_first = at_first
place_at (suc j) (at_later h) = at_later (at_later h)

place_set : (zs : List Process) (j : ℕ) (y w : Process) → j < length zs → slice_set (beside_stop zs) (place_number j) y ++ w ∷ [] ≡ beside_stop (slice_set zs j y ++ w ∷ [])
place_set [] j y w h = absurd (omega arith)
place_set (z ∷ zs) zero y w h = refl
place_set (z ∷ zs) (suc j) y w h = refl

last_set : (ps : List Process) (a y : Process) → slice_set (ps ++ a ∷ []) (length ps) y ≡ ps ++ y ∷ []
last_set [] a y = refl
last_set (p ∷ ps) a y = ap (λ l. p ∷ l) (last_set ps a y)

pub each_length : {x : n.Narration} {rs : List SWord} {ps : List Process} → EachRole x rs ps → length ps ≡ length rs
each_length each_none = refl
each_length (each_role h e) = ap suc (each_length e)

pub each_more : {x : n.Narration} {rs : List SWord} {ps : List Process} (r : SWord) (p : Process) → EachRole x rs ps → Holds (role_process r x.lines) [] (word_in ((narrated_begin x).has r.word)) p → EachRole x (rs ++ r ∷ []) (ps ++ p ∷ [])
each_more r p each_none g = each_role g each_none
each_more r p (each_role h e) g = each_role h (each_more r p e g)

-- the act of a composition of roles
module _ {x : n.Narration} {file : Meant} {before rest : List SWord} {r q : SWord} {pool : Pooled} {steps : List Step} (h : SpreadsRoles x file before r (q ∷ rest) pool steps) where
  abbrev pub spread_place : ℕ
  spread_place = place_number (length before)

  abbrev pub spread_now : List Process
  spread_now = beside_stop ((h.apart ++ h.holds.0 ∷ []) ++ h.holds.1 ∷ [])

  last_at : At pool.configuration.places spread_place h.last
  last_at =
      subst (λ ps. At ps spread_place h.last) (sym h.places)
      (subst (λ j. At (beside_stop (h.apart ++ h.last ∷ [])) (place_number j) h.last) (each_length h.each) (place_at (length h.apart) (at_last h.apart h.last)))

  set_now : slice_set pool.configuration.places spread_place h.holds.0 ++ h.holds.1 ∷ [] ≡ spread_now
  set_now =
      let l : length h.apart < length (h.apart ++ h.last ∷ []) = let z = length-append h.apart (h.last ∷ []) in omega (arith, z) in
      (λ i. slice_set (h.places i) (place_number (sym (each_length h.each) i)) h.holds.0 ++ h.holds.1 ∷ [])
      ∙ place_set (h.apart ++ h.last ∷ []) (length h.apart) h.holds.0 h.holds.1 l
      ∙ ap (λ ps. beside_stop (ps ++ h.holds.1 ∷ [])) (last_set h.apart h.last h.holds.0)

  spread_takes : Takes pool.configuration (act spread_place) None (at_places pool.configuration.names spread_now)
  spread_takes =
      subst (λ ps. Takes pool.configuration (act spread_place) None (at_places pool.configuration.names ps)) set_now
      (takes_act last_at (subst (λ z. Acts pool.configuration.names z None pool.configuration.names h.holds.0 (h.holds.1 ∷ [])) (sym h.holds.2) acts_par))

  spread_small : bound_by pool.configuration (act spread_place) ≡ []
  spread_small = ap (by_place (bound_here pool.configuration.names)) (at_get last_at) ∙ ap (bound_here pool.configuration.names) h.holds.2

  spread_many : length spread_now ≡ suc (suc (suc (length before)))
  spread_many =
      let z = length-append (h.apart ++ h.holds.0 ∷ []) (h.holds.1 ∷ []) in
      let y = length-append h.apart (h.holds.0 ∷ []) in
      let w = each_length h.each in
      many h.apart h.holds.0 h.holds.1 ∙ (let v : suc (suc (suc (length h.apart))) ≡ suc (suc (suc (length before))) = ap (λ k. suc (suc (suc k))) w in v)
    where
      many : (ps : List Process) (a b : Process) → length (beside_stop ((ps ++ a ∷ []) ++ b ∷ [])) ≡ suc (suc (suc (length ps)))
      many [] a b = refl
      many (p ∷ ps) a b = let z = length-append (ps ++ a ∷ []) (b ∷ []) in let y = length-append ps (a ∷ []) in omega (arith, z, y)

  pub can_spread : length before ≤ 8 → IsTaken pool (act spread_place) None (record { configuration = at_places pool.configuration.names spread_now; most = pool.most })
  can_spread few = record { takes = spread_takes; small = let b = ap largest spread_small in omega (arith, b); few = let m = spread_many in omega (arith, m, h.most, few); most = refl }

  pub spread_more : {e : Option Event} {new : Pooled} → IsTaken pool (act spread_place) e new → (e ≡ None) × SpreadsRoles x file (before ++ r ∷ []) q rest new (steps ++ act spread_place ∷ [])
  spread_more {e} {new} t =
      let u = takes_once t.takes spread_takes in
      let z = length-append before (r ∷ []) in
      let l : length (before ++ r ∷ []) ≡ suc (length before) = omega (arith, z) in (
        u.0,
        record {
          cut = h.cut ∙ sym (append_assoc before (r ∷ []) (q ∷ rest));
          apart = h.apart ++ h.holds.0 ∷ [];
          last = h.holds.1;
          each = each_more r h.holds.0 h.each h.holds.3;
          holds = h.holds.4;
          places = ap (λ c. c.places) u.1;
          names = ap (λ c. c.names) u.1 ∙ h.names;
          replays = subst (λ e. Replays (opening file) (steps ++ act spread_place ∷ []) (option_to_list e) new) u.0 (replays_more h.replays t);
          order = step_order steps (act spread_place) h.order (λ i. role_steps (place_next l i) (count_next l i) rest ++ steps_behind x);
          few_names = let ns = ap (λ c. c.names) u.1 in omega (arith, ns, h.few_names);
          most = t.most ∙ h.most;
        },
      )
    where
      place_next : {m : ℕ} → m ≡ suc (length before) → 2 + length before ≡ place_number m
      place_next l = let z : 2 + length before ≡ suc (suc (length before)) = omega arith in z ∙ ap place_number (sym l)

      count_next : {m : ℕ} → m ≡ suc (length before) → suc (2 + length before) ≡ 2 + m
      count_next l = omega (arith, l)
