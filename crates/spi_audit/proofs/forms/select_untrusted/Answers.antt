use Rattle.std.proofs.Common.{sym, ◌∙◌}
use Rattle.spi_term.specs.View.{message, ty}
use Rattle.spi_intern.proofs.Meanings.{terms_same}
use Rattle.spi_message.proofs.Tested.{kept_more}
use Rattle.spi_audit.proofs.FormPremises.{asked_later, begins_later}
use Rattle.spi_audit.proofs.FormTyped.{select_first, select_second, select_un_fits}
use Rattle.spi_audit.proofs.forms.select_untrusted.Goals as goal

pub returns-then-not-is_un_type-clause-answer : goal.returns-then-not-is_un_type-clause-answer
returns-then-not-is_un_type-clause-answer c = select_first c.args.judge.now c.args.judge.now (message c.args.whole.now) (message c.args.equal.now) (ty c.args.first.now) (ty c.args.second.now) c.args.body (sym c.is_un_type.ensures ∙ c.if-not-is_un_type.true)

pub returns-then-not-is_un_type-2-clause-answer : goal.returns-then-not-is_un_type-2-clause-answer
returns-then-not-is_un_type-2-clause-answer c = select_second c.args.judge.now c.args.judge.now (message c.args.whole.now) (message c.args.equal.now) (ty c.args.first.now) (ty c.args.second.now) c.args.body (sym c.is_un_type-2.ensures ∙ c.if-not-is_un_type-2.true)

pub returns-clause-answer : goal.returns-clause-answer
returns-clause-answer c = select_un_fits c.args.judge.now c.begun_one.new.judge (message c.args.whole.now) (message c.args.equal.now) (ty c.args.first.now) (ty c.args.second.now) c.args.body (sym c.is_un_type.ensures ∙ c.if-not-is_un_type.false) (sym c.is_un_type-2.ensures ∙ c.if-not-is_un_type-2.false) (asked_later (kept_more c.in_ok-part.ensures.kept c.in_ok-next.ensures.kept).store c.in_ok-pair.ensures.at) (asked_later c.in_ok-next.ensures.kept.store c.in_ok-part.ensures.at) (begins_later c.args.judge.now c.asked_untrusted-2.new.judge c.begun_one.new.judge c.begun_one.new.judge (kept_more c.in_ok-pair.ensures.kept c.in_ok-part.ensures.kept) (terms_same c.begun_one.new.judge.store) c.in_ok-next.ensures.begins)
