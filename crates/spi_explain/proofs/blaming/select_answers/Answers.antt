use Rattle.std.proofs.Common.{subst, [], ◌∷◌}
use Rattle.spi_blame.specs.Blaming.{typed}
use Rattle.spi_term.specs.Term.{un}
use Rattle.spi_term.specs.View.{message, ty}
use Rattle.spi_explain.specs.Premises.{AreAnswered}
use Rattle.spi_explain.proofs.Answered.{answered_start}
use Rattle.spi_explain.proofs.blaming.select_answers.Goals as goal

pub returns : goal.returns
returns c =
    let e = c.args.env.now in
    let m = message c.args.m.now in
    let n = message c.args.n.now in
    let w = ty c.args.whole in
    let f = ty c.in_ok-first.first in
    let a = c.in_ok-ask_type.ensures [] (answered_start e c.new-answers.result.items c.new-answers.ensures.items) in
    let b = c.in_ok-ask_type-2.ensures (typed m w ∷ []) a in
    let d = c.in_ok-ask_type-3.ensures (typed m w ∷ (typed n f ∷ [])) b in
    let g = c.in_ok-ask_type-4.ensures (typed m w ∷ (typed n f ∷ (typed m un ∷ []))) d in
    subst (λ t. AreAnswered e (typed m w ∷ (typed n t ∷ (typed m un ∷ (typed n un ∷ [])))) c.ask_type-4.new.answers.items) c.in_ok-first.ensures g
