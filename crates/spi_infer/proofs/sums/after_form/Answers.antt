use Rattle.std.proofs.Common.{subst, sym, Bool}
use Rattle.std.proofs.lemmas.Result.{IfOk-weaker}
use Rattle.spi_term.specs.View.{message, ty, shape_of_form, shape_of}
use Rattle.spi_infer.specs.Accounts.{kept_if, AfterForm, OwnCast}
use Rattle.spi_infer.proofs.Formed.{cast_form}
use Rattle.spi_infer.proofs.sums.after_form.Goals as goal

pub returns-in-Cast : goal.returns-in-Cast
returns-in-Cast c =
    IfOk-weaker c.cast.result (λ b. OwnCast c.args.node.now.scope c.args.store.now c.args.keys.now c.args.own c.args.pile.now (kept_if b c.cast.new.pile))
    (λ b. AfterForm c.args.store.now c.args.keys.now (shape_of c.args.node.now) c.args.own c.args.pile.now (kept_if b c.cast.new.pile))
    (λ (b : Bool) h. subst (λ f. AfterForm c.args.store.now c.args.keys.now (shape_of_form c.args.node.now.scope f) c.args.own c.args.pile.now (kept_if b c.cast.new.pile)) (sym c.in-Cast.is)
    (cast_form c.args.store.now c.args.keys.now c.args.node.now.scope c.in-Cast.body (message c.in-Cast.whole) (ty c.in-Cast.ty) c.args.own c.args.pile.now (kept_if b c.cast.new.pile) h)) c.cast.ensures
