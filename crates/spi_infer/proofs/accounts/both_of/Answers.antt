use Rattle.std.proofs.Common.{subst, None, Some}
use Rattle.spi_term.specs.View.{shape_of}
use Rattle.spi_count.specs.Keeping.{with_keys}
use Rattle.spi_infer.specs.Own.{PileFor}
use Rattle.spi_infer.specs.Accounts.{kept_if, BothForm}
use Rattle.spi_infer.proofs.Accounted.{two_acts, two_stuck}
use Rattle.spi_infer.proofs.accounts.both_of.Goals as goal

pub returns-then-stays-clause-stuck : goal.returns-then-stays-clause-stuck
returns-then-stays-clause-stuck c s keys e f k t u v w =
    two_stuck s keys (shape_of c.args.node.now) c.args.fine c.in-Some.a c.in-Some-b.b (Some c.both_form.new.b) e f c.if-not-fine.false k
    (subst (λ b. BothForm (shape_of c.args.node.now) c.in-Some.a c.in-Some-b.b (kept_if b c.both_form.new.b)) c.if-stays.true c.in_ok-stays-in-Some-b.ensures)
    (subst (λ o. PileFor (with_keys s keys) o e) c.in-Some.is t) (subst (λ o. PileFor (with_keys s keys) o f) c.in-Some-b.is u) v w

pub returns-else-stays-clause-stuck : goal.returns-else-stays-clause-stuck
returns-else-stays-clause-stuck c s keys e f k t u v w =
    two_stuck s keys (shape_of c.args.node.now) c.args.fine c.in-Some.a c.in-Some-b.b None e f c.if-not-fine.false k
    (subst (λ b. BothForm (shape_of c.args.node.now) c.in-Some.a c.in-Some-b.b (kept_if b c.both_form.new.b)) c.if-stays.false c.in_ok-stays-in-Some-b.ensures)
    (subst (λ o. PileFor (with_keys s keys) o e) c.in-Some.is t) (subst (λ o. PileFor (with_keys s keys) o f) c.in-Some-b.is u) v w

pub returns-then-stays-clause-effect : goal.returns-then-stays-clause-effect
returns-then-stays-clause-effect c s keys e f k t u v w =
    two_acts s keys (shape_of c.args.node.now) c.args.fine c.in-Some.a c.in-Some-b.b (Some c.both_form.new.b) e f c.if-not-fine.false k
    (subst (λ b. BothForm (shape_of c.args.node.now) c.in-Some.a c.in-Some-b.b (kept_if b c.both_form.new.b)) c.if-stays.true c.in_ok-stays-in-Some-b.ensures)
    (subst (λ o. PileFor (with_keys s keys) o e) c.in-Some.is t) (subst (λ o. PileFor (with_keys s keys) o f) c.in-Some-b.is u) v w

pub returns-else-stays-clause-effect : goal.returns-else-stays-clause-effect
returns-else-stays-clause-effect c s keys e f k t u v w =
    two_acts s keys (shape_of c.args.node.now) c.args.fine c.in-Some.a c.in-Some-b.b None e f c.if-not-fine.false k
    (subst (λ b. BothForm (shape_of c.args.node.now) c.in-Some.a c.in-Some-b.b (kept_if b c.both_form.new.b)) c.if-stays.false c.in_ok-stays-in-Some-b.ensures)
    (subst (λ o. PileFor (with_keys s keys) o e) c.in-Some.is t) (subst (λ o. PileFor (with_keys s keys) o f) c.in-Some-b.is u) v w
