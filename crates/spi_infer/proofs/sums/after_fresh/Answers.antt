use Rattle.std.proofs.Common.{Bool}
use Rattle.std.proofs.lemmas.Result.{IfOk-weaker}
use Rattle.spi_infer.specs.Accounts.{kept_if, AfterOne}
use Rattle.spi_infer.proofs.Formed.{make_is}
use Rattle.spi_infer.proofs.sums.after_fresh.Goals as goal

pub returns : goal.returns
returns c =
    IfOk-weaker c.after_binder.result (λ b. AfterOne c.args.scope c.drop_atom.new.pile (kept_if b c.after_binder.new.pile)) _
    (λ (b : Bool) h s e. make_is c.args.scope s c.args.keys.now c.args.name c.args.pile.now c.drop_atom.new.pile (kept_if b c.after_binder.new.pile) e c.in_ok-drop_atom.ensures h)
    c.after_binder.ensures.one
