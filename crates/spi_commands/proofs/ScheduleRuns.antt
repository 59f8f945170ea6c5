-- What a run with the steps of a replay hands over.
use Rattle.std.proofs.Common.{◌≡◌, refl, sym, ap, ◌∙◌, subst, List, ◌++◌}
use Rattle.spi_term.specs.Term.{Message}
use Rattle.spi_run.specs.Reduction.{Configuration, Step, Event, Takes, Runs, runs_none, runs_silent, runs_event}
use Rattle.spi_run.proofs.Once.{takes_once}
use Rattle.spi_replay.specs.Stepping.{Pooled}
use Rattle.spi_know.specs.Sent.{handed, handed_in}
use Rattle.spi_commands.specs.Replays.{ReplaysWithTalks, replays_none, replays_step}

-- a replay from a pool with the same configuration
abbrev From : Configuration → List Step → List Event → List Message → Type 0
From c ss es ms = (p : Pooled) × (q : Pooled) × (p.configuration ≡ c) × ReplaysWithTalks p ss es ms q

pub same_handed : {c d : Configuration} {ss : List Step} {es fs : List Event} {ms : List Message} → From c ss fs ms → (r : Runs c ss es d) → handed_in r ≡ ms
same_handed (p, q, e, replays_none) runs_none = refl
same_handed (p, q, e, replays_step {q = m} {s = s} {e = f} {ms = ms} t h) (runs_silent {c = c} u r) =
    let next = (takes_once (subst (λ (x : Configuration). Takes x s f m.configuration) e t.takes) u).1 in
    ap (λ (l : List Message). handed c s ++ l) (same_handed (m, q, next, h) r) ∙ ap (λ (x : Configuration). handed x s ++ ms) (sym e)
same_handed (p, q, e, replays_step {q = m} {s = s} {e = f} {ms = ms} t h) (runs_event {c = c} u r) =
    let next = (takes_once (subst (λ (x : Configuration). Takes x s f m.configuration) e t.takes) u).1 in
    ap (λ (l : List Message). handed c s ++ l) (same_handed (m, q, next, h) r) ∙ ap (λ (x : Configuration). handed x s ++ ms) (sym e)
