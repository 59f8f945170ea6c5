-- A narration that was told to its end has an honest schedule.
use Rattle.std.proofs.Common.{◌≡◌, ℕ, ◌≤◌, List, [], ◌∷◌, length, take, map, sym, ap, ◌∙◌, subst, ◌⊎◌, inl, inr, ⊎_elim}
use Rattle.std.proofs.lemmas.Bool.{cases_eq}
use Rattle.std.proofs.lemmas.List.{append-nil, take_all, drop_all}
use Rattle.spi_tree.specs.declared.tree.SWord.{SWord}
use Rattle.spi_narrate.specs.Narrations as n
use Rattle.spi_term.specs.Lists.{At, In, in_first, in_later}
use Rattle.spi_term.proofs.Lists.{at_unique, in_cases}
use Rattle.spi_term.specs.Term.{Process, stop}
use Rattle.spi_run.specs.Reduction.{Step, Event}
use Rattle.spi_run.specs.View.{step, event}
use Rattle.spi_replay.specs.Stepping.{Pooled}
use Rattle.spi_scope.specs.Scope.{Word}
use Rattle.spi_scope.specs.StandsFor.{Meant}
use Rattle.spi_honest.specs.declared.honest.Honest.{Honest}
use Rattle.spi_honest.specs.declared.stage.Stage.{Stage}
use Rattle.spi_honest.specs.Reading.{Map}
use Rattle.spi_honest.specs.Narrated.{NarratesSmall, free_of, narrated_begin}
use Rattle.spi_honest.specs.Standing.{StandRoles, StoppedRoles, left}
use Rattle.spi_honest.specs.Honest.{IsHonest}
use Rattle.spi_honest.specs.Progress.{Progress}
use Rattle.spi_honest.specs.Stages.{ToldTo, stage_steps, events_in}
use Rattle.spi_honest.proofs.Telling.{replays_run}

-- a role that stands at a place
at_place : (place : Word → ℕ) (i : ℕ) (rs : List SWord) → ((r : SWord) × In r rs × (place r.word ≡ i)) ⊎ ((r : SWord) → In r rs → place r.word ≡ i → ⊥)
at_place place i [] = inr (λ r m e. elim m [ ])
at_place place i (q ∷ qs) =
    ⊎_elim (λ e. inl (q, in_first, e))
    (λ d. ⊎_elim (λ f. inl (f.0, in_later f.1, f.2)) (λ g. inr (λ r m e. ⊎_elim (λ z. d (ap (λ v. place v.word) (sym z) ∙ e)) (λ a. g r a e) (in_cases m))) (at_place place i qs))
    (cases_eq (place q.word) i)

pub all_stop : {roles : List SWord} {place : Word → ℕ} {has : Word → Map} {ps : List Process} → StandRoles roles place (left []) has StoppedRoles ps → (i : ℕ) (p : Process) → At ps i p → p ≡ stop
all_stop {roles} {place} {ps = ps} h i p a =
    ⊎_elim (λ f. let s = h.there f.0 f.1 in at_unique a (subst (λ k. At ps k s.process) f.2 s.there) ∙ s.holds) (λ d. h.others i p a d) (at_place place i roles)

finished_at : {x : n.Narration} {file : Meant} {pool : Pooled} {steps : List Step} {events : List Event} {is : List ℕ} (h : Honest) → map step h.steps.items ≡ steps → map event h.events.items ≡ events → Progress x file x.lines [] pool steps events is → IsHonest x file h
finished_at {x} {file} {pool} {steps} {events} h a b p = record {
  told = p.told;
  last = pool;
  narrates = subst (λ es. NarratesSmall (free_of x) (narrated_begin x) x.lines es p.told) (sym b) p.narrates;
  order = a ∙ sym (append-nil steps) ∙ sym p.order;
  replays = subst (λ ss. Rattle.spi_honest.specs.Honest.Replays (Rattle.spi_honest.specs.Honest.opening file) ss (map event h.events.items) pool) (sym a) (subst (λ es. Rattle.spi_honest.specs.Honest.Replays (Rattle.spi_honest.specs.Honest.opening file) steps es pool) (sym b) p.replays);
  runs = subst (λ ss. Rattle.spi_run.specs.Reduction.Runs (Rattle.spi_honest.specs.Honest.opening file).configuration ss (map event h.events.items) pool.configuration) (sym a) (subst (λ es. Rattle.spi_run.specs.Reduction.Runs (Rattle.spi_honest.specs.Honest.opening file).configuration steps es pool.configuration) (sym b) (replays_run p.replays));
  stops = all_stop p.stands;
}

pub finished : (x : n.Narration) (file : Meant) (i : ℕ) (st : Stage) (h : Honest) → length x.lines ≤ i → h.steps.items ≡ st.steps.items → h.events.items ≡ st.events.items → ToldTo x file i st → IsHonest x file h
finished x file i st h e a b t =
    finished_at h (ap (map step) a) (ap (map event) b)
    (subst (λ ls. Progress x file ls [] st.pool (stage_steps st) (events_in st) st.places.items) (take_all i x.lines e)
    (subst (λ ls. Progress x file (take i x.lines) ls st.pool (stage_steps st) (events_in st) st.places.items) (drop_all i x.lines e) t))
