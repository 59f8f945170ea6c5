-- The start of a narration, on a stage.
use Rattle.std.proofs.Common.{◌≡◌, ℕ, zero, suc, ◌+◌, ◌<◌, ◌≤◌, List, [], ◌∷◌, ◌++◌, length, take, drop, map, slice_get, refl, sym, ap, ◌∙◌, subst, arith, Option, Some, None, option_to_list}
use Rattle.std.proofs.lemmas.List.{drop_all}
use Rattle.spi_tree.specs.declared.tree.SWord.{SWord}
use Rattle.spi_heading.specs.Headings.{Shared}
use Rattle.spi_narrate.specs.Narrations as n
use Rattle.spi_term.proofs.Lists.{get_some}
use Rattle.spi_term.specs.Spelling.{Spelling}
use Rattle.spi_term.specs.Term.{stop}
use Rattle.spi_run.specs.Reduction.{act, Event}
use Rattle.spi_run.specs.Safety.{beside}
use Rattle.spi_run.specs.View.{step, event}
use Rattle.spi_replay.specs.Stepping.{Pooled, IsTaken}
use Rattle.spi_scope.specs.StandsFor.{Meant, StandsFor}
use Rattle.spi_weave.specs.Woven.{woven}
use Rattle.spi_honest.specs.declared.stage.Stage.{Stage}
use Rattle.spi_honest.specs.Roles.{IsTellable}
use Rattle.spi_honest.specs.Honest.{opening}
use Rattle.spi_honest.specs.Progress.{Progress, place_number, AreRolePlaces, Shares, SpreadsRoles}
use Rattle.spi_honest.specs.Stages.{TookStep, SharesTo, SpreadsTo, ToldTo, stage_steps, events_in}
use Rattle.spi_honest.proofs.Settled.{share_first, spread_first, settled}
use Rattle.spi_honest.proofs.Opened.{can_share, share_more, can_spread, spread_more}
use Rattle.spi_honest.proofs.Playing.{dropped, taken, one_more}

-- elements of lists
taken_length : {A : Type 0} (xs : List A) (i : ℕ) → i ≤ length xs → length (take i xs) ≡ i
taken_length [] zero h = refl
taken_length [] (suc i) h = absurd (omega arith)
taken_length (x ∷ xs) zero h = refl
taken_length (x ∷ xs) (suc i) h = ap suc (taken_length xs i (omega arith))

pub start_shares : (x : n.Narration) (file : Meant) (st : Stage) (o : Spelling) → StandsFor (woven x) file → file.process.names ≤ 100000 → file.opponent ≡ Some o → st.pool.configuration ≡ beside file.process.names file.process.process o.process → st.pool.most ≡ 5000 → st.steps.items ≡ [] → st.events.items ≡ [] → SharesTo x file 0 st
start_shares x file st o h few e c m a b = record {
  shares = subst (λ ss. Shares x file [] x.shared st.pool ss) (sym (ap (λ s. map step s) a)) (share_first h few pool_is);
  quiet = ap (λ s. map event s) b;
}
  where
    idle : {p q : Spelling} → Some p ≡ Some q → p ≡ q
    idle e = cc

    its : o.process ≡ stop
    its = ap (λ s. s.process) (idle (sym e ∙ h.opponent))

    pool_is : st.pool ≡ opening file
    pool_is = λ i. record { configuration = (c ∙ ap (λ p. beside file.process.names file.process.process p) its) i; most = m i }

-- shared names
module _ (x : n.Narration) (file : Meant) (i : ℕ) (old : Stage) (h : SharesTo x file i old) (below : i < length x.shared) where
  its : (s : Shared) × (slice_get x.shared i ≡ Some s)
  its = get_some x.shared i below

  shares : Shares x file (take i x.shared) (its.0 ∷ drop (suc i) x.shared) old.pool (stage_steps old)
  shares = subst (λ ss. Shares x file (take i x.shared) ss old.pool (stage_steps old)) (dropped x.shared i its.1) h.shares

  pub share_can : (e : Option Event) × (new : Pooled) × IsTaken old.pool (act 0) e new
  share_can = (None, _, can_share its.0 shares)

  pub share_on : (new : Stage) → TookStep old new (act 0) → SharesTo x file (i + 1) new
  share_on new t =
      let m = share_more its.0 shares t.taken in
      subst (λ k. SharesTo x file k new) (one_more i) (record {
        shares = subst (λ ss. Shares x file ss (drop (suc i) x.shared) new.pool (stage_steps new)) (sym (taken x.shared i its.1)) (subst (λ ss. Shares x file (take i x.shared ++ its.0 ∷ []) (drop (suc i) x.shared) new.pool ss) (sym t.steps) m.1);
        quiet = t.events ∙ (λ z. h.quiet z ++ option_to_list (m.0 z));
      })

-- roles
module _ (x : n.Narration) (file : Meant) (i : ℕ) (old : Stage) (h : SpreadsTo x file i old) (below : suc i < length x.roles) (ok : IsTellable x) (p : ℕ) (place : p ≡ place_number i) where
  next : (q : SWord) × (slice_get x.roles (suc i) ≡ Some q)
  next = get_some x.roles (suc i) below

  spreads : SpreadsRoles x file (take i x.roles) h.role (next.0 ∷ drop (suc (suc i)) x.roles) old.pool (stage_steps old)
  spreads = subst (λ rs. SpreadsRoles x file (take i x.roles) h.role rs old.pool (stage_steps old)) (dropped x.roles (suc i) next.1) h.spreads

  many : length (take i x.roles) ≡ i
  many = taken_length x.roles i (omega (arith, below))

  place_is : place_number (length (take i x.roles)) ≡ p
  place_is = ap place_number many ∙ sym place

  pub spread_can : (e : Option Event) × (new : Pooled) × IsTaken old.pool (act p) e new
  spread_can = subst (λ z. (e : Option Event) × (new : Pooled) × IsTaken old.pool (act z) e new) place_is (None, _, can_spread spreads (omega (arith, many, below, ok.roles)))

  pub spread_on : (new : Stage) → TookStep old new (act p) → SpreadsTo x file (i + 1) new
  spread_on new t =
      let m = spread_more spreads (subst (λ z. IsTaken old.pool (act z) t.event new.pool) (sym place_is) t.taken) in
      subst (λ k. SpreadsTo x file k new) (one_more i) (record {
        role = next.0;
        here = next.1;
        spreads =
            subst (λ rs. SpreadsRoles x file rs next.0 (drop (suc (suc i)) x.roles) new.pool (stage_steps new)) (sym (taken x.roles i h.here))
            (subst (λ ss. SpreadsRoles x file (take i x.roles ++ h.role ∷ []) next.0 (drop (suc (suc i)) x.roles) new.pool ss) (ap (λ z. stage_steps old ++ act z ∷ []) place_is ∙ sym t.steps) m.1);
        quiet = t.events ∙ (λ z. h.quiet z ++ option_to_list (m.0 z));
      })

pub shares_spread : (x : n.Narration) (file : Meant) (i : ℕ) (st : Stage) (r : SWord) (rs : List SWord) → IsTellable x → x.roles ≡ r ∷ rs → length x.shared ≤ i → SharesTo x file i st → SpreadsTo x file 0 st
shares_spread x file i st r rs ok e f h =
    let s = spread_first r rs e ok.shared (subst (λ ss. Shares x file (take i x.shared) ss st.pool (stage_steps st)) (drop_all i x.shared f) h.shares) in
    record {
      role = r;
      here = ap (λ l. slice_get l 0) e;
      spreads = subst (λ qs. SpreadsRoles x file [] r qs st.pool (stage_steps st)) (sym (ap (λ l. drop 1 l) e)) s;
      quiet = h.quiet;
    }

pub spread_told : (x : n.Narration) (file : Meant) (i : ℕ) (st now : Stage) → IsTellable x → length x.roles ≤ suc i → SpreadsTo x file i st → AreRolePlaces (length x.roles) now.places.items → now.pool ≡ st.pool → now.steps ≡ st.steps → now.events ≡ st.events → ToldTo x file 0 now
spread_told x file i st now ok f h a b c d =
    subst (λ p. Progress x file [] x.lines p (stage_steps now) (events_in now) now.places.items) (sym b)
    (subst (λ ss. Progress x file [] x.lines st.pool ss (events_in now) now.places.items) (sym (ap (λ v. map step v.items) c))
    (subst (λ es. Progress x file [] x.lines st.pool (stage_steps st) es now.places.items) (sym (ap (λ v. map event v.items) d ∙ h.quiet))
    (settled now.places.items ok a (subst (λ rs. SpreadsRoles x file (take i x.roles) h.role rs st.pool (stage_steps st)) (drop_all (suc i) x.roles f) h.spreads))))
