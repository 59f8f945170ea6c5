use Rattle.std.proofs.Common.{subst}
use Rattle.spi_infer.specs.Accounts.{kept_if, AfterOne}
use Rattle.spi_infer.proofs.Formed.{sides_first, sides_second, sides_both}
use Rattle.spi_infer.proofs.sums.both_sides.Goals as goal

pub returns-then-not-stays : goal.returns-then-not-stays
returns-then-not-stays c =
    sides_first c.args.scope c.args.a c.args.b.now (subst (λ b. AfterOne c.args.scope c.args.a (kept_if b c.after_binder.new.pile)) c.if-not-stays.true c.in_ok-stays.ensures.one)

pub returns-then-not-stay : goal.returns-then-not-stay
returns-then-not-stay c =
    sides_second c.args.scope c.args.a c.args.b.now (subst (λ b. AfterOne c.args.scope c.args.b.now (kept_if b c.after_binder-2.new.pile)) c.if-not-stay.true c.in_ok-stay.ensures.one)

pub returns : goal.returns
returns c =
    sides_both c.args.scope c.args.a c.args.b.now c.after_binder.new.pile c.after_binder-2.new.pile c.settle.new.self c.settle-2.new.self _
    (subst (λ b. AfterOne c.args.scope c.args.a (kept_if b c.after_binder.new.pile)) c.if-not-stays.false c.in_ok-stays.ensures.one)
    (subst (λ b. AfterOne c.args.scope c.args.b.now (kept_if b c.after_binder-2.new.pile)) c.if-not-stay.false c.in_ok-stay.ensures.one)
    c.in_ok-settle.ensures.counted c.in_ok-settle-2.ensures.counted c.in_ok-rise_to.ensures c.in_ok-settle-2.ensures.none
