use Rattle.std.proofs.Common.{[], ◌∷◌}
use Rattle.spi_blame.specs.Blaming.{typed}
use Rattle.spi_term.specs.Term.{un}
use Rattle.spi_term.specs.View.{message}
use Rattle.spi_explain.proofs.Answered.{answered_start}
use Rattle.spi_explain.proofs.blaming.send_answers.Goals as goal

pub returns : goal.returns
returns c =
    let e = c.args.env.now in
    let a = c.in_ok-ask_type.ensures [] (answered_start e c.new-answers.result.items c.new-answers.ensures.items) in
    c.in_ok-ask_type-2.ensures (typed (message c.args.m.now) un ∷ []) a
