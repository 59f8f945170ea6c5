use Rattle.std.proofs.Common.{[], ◌∷◌}
use Rattle.spi_blame.specs.Blaming.{typed}
use Rattle.spi_term.specs.View.{message, ty}
use Rattle.spi_explain.proofs.Answered.{answered_start}
use Rattle.spi_explain.proofs.blaming.whole_answers.Goals as goal

pub returns : goal.returns
returns c =
    let a = c.in_ok-ask_type.ensures [] (answered_start c.args.env.now c.new-answers.result.items c.new-answers.ensures.items) in
    c.in_ok-ask_type-2.ensures (typed (message c.args.m.now) (ty c.args.whole) ∷ []) a
