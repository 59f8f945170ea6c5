use Rattle.std.proofs.Common.{[], ◌∷◌}
use Rattle.spi_blame.specs.Blaming.{typed}
use Rattle.spi_term.specs.Term.{un}
use Rattle.spi_term.specs.View.{message, ty}
use Rattle.spi_explain.proofs.Answered.{answered_start}
use Rattle.spi_explain.proofs.blaming.decrypt_answers.Goals as goal

pub returns : goal.returns
returns c =
    let m = message c.args.m.now in
    let n = message c.args.n.now in
    let a = c.in_ok-ask_type.ensures [] (answered_start c.args.env.now c.new-answers.result.items c.new-answers.ensures.items) in
    let b = c.in_ok-ask_type-2.ensures (typed m un ∷ []) a in
    c.in_ok-ask_type-3.ensures (typed m un ∷ (typed n (ty c.args.wanted) ∷ [])) b
