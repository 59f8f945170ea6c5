use Rattle.std.proofs.Common.{sym, ◌∙◌}
use Rattle.spi_term.specs.View.{message, ty}
use Rattle.spi_intern.proofs.Meanings.{terms_same}
use Rattle.spi_message.proofs.Tested.{kept_more}
use Rattle.spi_audit.proofs.FormPremises.{asked_later, begins_later}
use Rattle.spi_audit.proofs.FormTyped.{branch_left, branch_right, branch_un_fits}
use Rattle.spi_audit.proofs.forms.branch_untrusted.Goals as goal

pub returns-then-not-is_un_type-clause-answer : goal.returns-then-not-is_un_type-clause-answer
returns-then-not-is_un_type-clause-answer c = branch_left c.args.judge.now c.args.judge.now (message c.args.whole.now) (ty c.args.left.now) (ty c.args.right.now) c.args.on_left c.args.on_right (sym c.is_un_type.ensures ∙ c.if-not-is_un_type.true)

pub returns-then-not-is_un_type-2-clause-answer : goal.returns-then-not-is_un_type-2-clause-answer
returns-then-not-is_un_type-2-clause-answer c = branch_right c.args.judge.now c.args.judge.now (message c.args.whole.now) (ty c.args.left.now) (ty c.args.right.now) c.args.on_left c.args.on_right (sym c.is_un_type-2.ensures ∙ c.if-not-is_un_type-2.true)

pub returns-clause-answer : goal.returns-clause-answer
returns-clause-answer c =
    branch_un_fits c.args.judge.now c.begun_one-2.new.judge (message c.args.whole.now) (ty c.args.left.now) (ty c.args.right.now) c.args.on_left c.args.on_right (sym c.is_un_type.ensures ∙ c.if-not-is_un_type.false) (sym c.is_un_type-2.ensures ∙ c.if-not-is_un_type-2.false)
    (asked_later (kept_more c.in_ok-first.ensures.kept c.in_ok-rest.ensures.kept).store c.in_ok-sum.ensures.at)
    (begins_later c.args.judge.now c.asked_untrusted.new.judge c.begun_one.new.judge c.begun_one-2.new.judge c.in_ok-sum.ensures.kept c.in_ok-rest.ensures.kept.store c.in_ok-first.ensures.begins)
    (begins_later c.args.judge.now c.begun_one.new.judge c.begun_one-2.new.judge c.begun_one-2.new.judge (kept_more c.in_ok-sum.ensures.kept c.in_ok-first.ensures.kept) (terms_same c.begun_one-2.new.judge.store) c.in_ok-rest.ensures.begins)
