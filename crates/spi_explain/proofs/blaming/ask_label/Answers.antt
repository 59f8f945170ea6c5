use Rattle.std.proofs.Common.{sym, ap, subst, [], ◌∷◌, ◌++◌, None}
use Rattle.spi_blame.specs.Blaming.{labelled}
use Rattle.spi_term.specs.View.{message}
use Rattle.spi_explain.specs.declared.blaming.Answer.{Answer}
use Rattle.spi_explain.specs.Premises.{AreAnswered}
use Rattle.spi_explain.proofs.Answered.{answered_more}
use Rattle.spi_explain.proofs.blaming.ask_label.Goals as goal

pub returns : goal.returns
returns c qs h =
    let a : Answer = record { message = c.in_ok-message.message; wanted = None; blame = c.in_ok-blame.blame } in
    let q = labelled (message c.args.m.now) in
    subst (AreAnswered c.args.env.now (qs ++ q ∷ [])) (sym c.in_ok-push.ensures.items) (answered_more c.args.env.now q a (ap labelled c.in_ok-message.ensures) c.in_ok-blame.ensures h)
