use Rattle.std.proofs.Common.{sym, ap, subst, [], ◌∷◌, ◌++◌, Some}
use Rattle.spi_blame.specs.Blaming.{typed}
use Rattle.spi_term.specs.View.{message, ty}
use Rattle.spi_explain.specs.declared.blaming.Answer.{Answer}
use Rattle.spi_explain.specs.Premises.{AreAnswered}
use Rattle.spi_explain.proofs.Answered.{answered_more}
use Rattle.spi_explain.proofs.blaming.ask_type.Goals as goal

pub returns : goal.returns
returns c qs h =
    let a : Answer = record { message = c.in_ok-message.message; wanted = Some c.args.t; blame = c.in_ok-blame.blame } in
    let q = typed (message c.args.m.now) (ty c.args.t) in
    subst (AreAnswered c.args.env.now (qs ++ q ∷ [])) (sym c.in_ok-push.ensures.items) (answered_more c.args.env.now q a (ap (λ m. typed m (ty c.args.t)) c.in_ok-message.ensures) c.in_ok-blame.ensures h)
