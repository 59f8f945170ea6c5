-- The lines of steps, one after another.
use Rattle.std.proofs.Common.{◌≡◌, refl, sym, ◌∙◌, ap, ℕ, zero, suc, ◌+◌, ◌<◌, List, [], ◌∷◌, ◌++◌, length, map, take, get_or, append_assoc, arith}
use Rattle.std.proofs.lemmas.List.{append-nil}
use Rattle.spi_term.proofs.Lookup.{map_take_more}
use Rattle.spi_run.specs.Reduction as Reduction
use Rattle.spi_run.specs.View.{step}
use Rattle.spi_run.specs.declared.step.Step.{Step}
use Rattle.spi_show.specs.Steps.{step_text, steps_text}

steps_push : (ss : List Reduction.Step) (s : Reduction.Step) → steps_text (ss ++ s ∷ []) ≡ steps_text ss ++ step_text s
steps_push [] s = append-nil (step_text s)
steps_push (t ∷ ss) s = ap (λ l. step_text t ++ l) (steps_push ss s) ∙ sym (append_assoc (step_text t) (steps_text ss) (step_text s))

-- what is read within a list doesn't depend on what is read past it
get_any : (ss : List Step) (i : ℕ) (d e : Step) → i < length ss → get_or ss i d ≡ get_or ss i e
get_any [] i d e l = absurd (omega arith)
get_any (s ∷ ss) zero d e l = refl
get_any (s ∷ ss) (suc i) d e l = get_any ss i d e (omega arith)

pub line_more : (head old new : List ℕ) (ss : List Step) (i : ℕ) (d : Step) → i < length ss → old ≡ head ++ steps_text (map step (take i ss)) → new ≡ old ++ step_text (step (get_or ss i d)) → new ≡ head ++ steps_text (map step (take (i + 1) ss))
line_more head old new ss i d l f g =
    let s = get_or ss i d in
    g ∙ ap (λ t. t ++ step_text (step s)) f ∙ append_assoc head (steps_text (map step (take i ss))) (step_text (step s))
    ∙ ap (λ t. head ++ t) (sym (ap steps_text (map_take_more step ss i s l (get_any ss i d s l)) ∙ steps_push (map step (take i ss)) (step s)))
