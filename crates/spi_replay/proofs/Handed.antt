-- What a ready talk hands over.
use Rattle.std.proofs.Common.{◌≡◌, refl, sym, ap, ◌∙◌, ℕ, ◌<◌, List, [], ◌∷◌, length, Option, Some, None, slice_get, arith}
use Rattle.std.proofs.lemmas.List.{length-map}
use Rattle.std.proofs.lemmas.Option.{slice_get_within, slice_get-map}
use Rattle.std.specs.Option.{option_map}
use Rattle.spi_term.specs.Term.{Message, Process}
use Rattle.spi_term.proofs.Lists.{at_get}
use Rattle.spi_intern.specs.Table.{AllDiffer}
use Rattle.spi_intern.specs.Messages.{message_at}
use Rattle.spi_intern.proofs.Sized.{at_message}
use Rattle.spi_run.specs.Reduction.{Configuration, Step, talk, Event, Takes, takes_talk}
use Rattle.spi_run.specs.Knowledge.{datum, shown}
use Rattle.spi_replay.specs.declared.names.Link.{Link}
use Rattle.spi_replay.specs.declared.places.Place.{Place}
use Rattle.spi_replay.specs.declared.waits.Meeting.{Meeting}
use Rattle.spi_replay.specs.declared.fault.StepFault.{StepFault}
use Rattle.spi_replay.specs.declared.fault.StepFault.TheVariants.{NotReady}
use Rattle.spi_replay.specs.Holding.{place_process}
use Rattle.spi_replay.specs.Ready.{IsReady}
use Rattle.spi_replay.specs.Standing.{ArePlaces, processes}
use Rattle.spi_replay.specs.Stepping.{RefusesPoolStep, no_place, not_ready, too_large, too_many}
use Rattle.spi_replay.specs.Waiting.{met_by}
use Rattle.spi_replay.specs.Pools.{configuration_of}
use Rattle.spi_replay.proofs.Does.{meets_of}
use Rattle.spi_replay.proofs.Stepped.{refuse_apart, talk_takes}

pub out_inside : (ms : List Message) (ls : List Link) (ps : List Place) {n i j : ℕ} {e : Option Event} {d : Configuration} → Takes (configuration_of ms ls ps n) (talk i j) e d → (i < length ps) × (j < length ps)
out_inside ms ls ps {i = i} {j = j} (takes_talk {p = p} {q = q} a b t) =
    let x = slice_get_within (processes ms ls ps) i p (at_get a) in
    let y = slice_get_within (processes ms ls ps) j q (at_get b) in
    let l = length-map ps (place_process ms ls) in
    (omega (arith, x, l), omega (arith, y, l))

-- a step that is refused since it isn't ready isn't
refused_apart : {c : Configuration} {most : ℕ} {s : Step} {f : StepFault} (k : ℕ) → f ≡ NotReady k → RefusesPoolStep c most s f → IsReady c s → ⊥
refused_apart k e (no_place o) = absurd cc
refused_apart k e (not_ready f g) = g
refused_apart k e (too_large r l) = absurd cc
refused_apart k e (too_many t s m) = absurd cc

module _ (ms : List Message) (ls : List Link) (ps : List Place) (n i j : ℕ) {p q : Place} (at : slice_get ps i ≡ Some p) (at' : slice_get ps j ≡ Some q) (h : ArePlaces ms ls ps) where
  pub apart_not_ready : AllDiffer ms → met_by p.wait q.wait ≡ None → IsReady (configuration_of ms ls ps n) (talk i j) → ⊥
  apart_not_ready d e = refused_apart i refl (refuse_apart ms ls ps n 0 i j at at' h d e)

  pub met_ready : (m : Meeting) → met_by p.wait q.wait ≡ Some m → IsReady (configuration_of ms ls ps n) (talk i j)
  met_ready m e = (None, _, talk_takes ms ls ps n 0 i j at at' h m e)

  pub met_shown : (m : Meeting) → met_by p.wait q.wait ≡ Some m → shown (configuration_of ms ls ps n) (talk i j) ≡ message_at ms m.datum ∷ []
  met_shown m e =
      let x = meets_of p q m (h.each i p at) (h.each j q at') e in
      ap datum (slice_get-map (place_process ms ls) ps i ∙ (ap (option_map (place_process ms ls)) at ∙ ap (λ (r : Process). Some r) x.is))
      ∙ ap (λ d. d ∷ []) (sym (at_message ms m.datum x.number))
