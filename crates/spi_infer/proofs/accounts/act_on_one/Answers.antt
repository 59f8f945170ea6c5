use Rattle.std.proofs.Common.{◌∙◌, ap, subst, ◌∷◌, ◌++◌, [], None, Some}
use Rattle.spi_term.specs.View.{shape_of}
use Rattle.spi_infer.specs.Accounts.{kept_if, AfterForm}
use Rattle.spi_infer.proofs.Accounted.{one_acts, one_stuck}
use Rattle.spi_infer.proofs.accounts.act_on_one.Goals as goal

pub returns-in_ok-push-in-Some-Some-2-clause-stack : goal.returns-in_ok-push-in-Some-Some-2-clause-stack
returns-in_ok-push-in-Some-Some-2-clause-stack c n st b =
    one_acts c.args.store.now c.args.keys.now (shape_of c.args.node.now) c.args.note.now c.args.stack.now.items c.pop.new.self.items n st b c.if-not-note.false c.in-Some-Some.pile (Some c.after_form.new.pile) (c.in-Some-Some.ensures.items ∙ ap (λ o. c.pop.new.self.items ++ o ∷ []) c.in-Some-Some.field-0-is)
    (subst (λ b. AfterForm c.args.store.now c.args.keys.now (shape_of c.args.node.now) c.args.note.now.own c.in-Some-Some.pile (kept_if b c.after_form.new.pile)) c.if-stays.true c.in_ok-stays-in-Some-Some.ensures) c.push-then-stays.new.self.items c.in_ok-push-in-Some-Some-2.ensures.items

pub returns-in_ok-push-in-Some-Some-2-clause-stuck : goal.returns-in_ok-push-in-Some-Some-2-clause-stuck
returns-in_ok-push-in-Some-Some-2-clause-stuck c n st b =
    one_stuck c.args.store.now c.args.keys.now (shape_of c.args.node.now) c.args.note.now c.args.stack.now.items c.pop.new.self.items n st b c.if-not-note.false c.in-Some-Some.pile (Some c.after_form.new.pile) (c.in-Some-Some.ensures.items ∙ ap (λ o. c.pop.new.self.items ++ o ∷ []) c.in-Some-Some.field-0-is)
    (subst (λ b. AfterForm c.args.store.now c.args.keys.now (shape_of c.args.node.now) c.args.note.now.own c.in-Some-Some.pile (kept_if b c.after_form.new.pile)) c.if-stays.true c.in_ok-stays-in-Some-Some.ensures)

pub returns-in_ok-push-in-Some-Some-3-clause-stack : goal.returns-in_ok-push-in-Some-Some-3-clause-stack
returns-in_ok-push-in-Some-Some-3-clause-stack c n st b =
    one_acts c.args.store.now c.args.keys.now (shape_of c.args.node.now) c.args.note.now c.args.stack.now.items c.pop.new.self.items n st b c.if-not-note.false c.in-Some-Some.pile None (c.in-Some-Some.ensures.items ∙ ap (λ o. c.pop.new.self.items ++ o ∷ []) c.in-Some-Some.field-0-is)
    (subst (λ b. AfterForm c.args.store.now c.args.keys.now (shape_of c.args.node.now) c.args.note.now.own c.in-Some-Some.pile (kept_if b c.after_form.new.pile)) c.if-stays.false c.in_ok-stays-in-Some-Some.ensures) c.push-else-stays.new.self.items c.in_ok-push-in-Some-Some-3.ensures.items

pub returns-in_ok-push-in-Some-Some-3-clause-stuck : goal.returns-in_ok-push-in-Some-Some-3-clause-stuck
returns-in_ok-push-in-Some-Some-3-clause-stuck c n st b =
    one_stuck c.args.store.now c.args.keys.now (shape_of c.args.node.now) c.args.note.now c.args.stack.now.items c.pop.new.self.items n st b c.if-not-note.false c.in-Some-Some.pile None (c.in-Some-Some.ensures.items ∙ ap (λ o. c.pop.new.self.items ++ o ∷ []) c.in-Some-Some.field-0-is)
    (subst (λ b. AfterForm c.args.store.now c.args.keys.now (shape_of c.args.node.now) c.args.note.now.own c.in-Some-Some.pile (kept_if b c.after_form.new.pile)) c.if-stays.false c.in_ok-stays-in-Some-Some.ensures)
