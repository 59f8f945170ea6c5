use Rattle.std.proofs.Common.{refl}
use Rattle.spi_term.specs.View.{ty}
use Rattle.spi_message.proofs.Tested.{kept_more, kept_same, type_kept}
use Rattle.spi_audit.proofs.FormPremises.{begins_later}
use Rattle.spi_audit.proofs.FormUses.{is_good, is_not_good}
use Rattle.spi_audit.proofs.FormTyped.{good_later, bad_later}
use Rattle.spi_audit.proofs.forms.cast_good.Goals as goal

pub returns-then-not-branch-clause-answer : goal.returns-then-not-branch-clause-answer
returns-then-not-branch-clause-answer c =
    let t = ty c.args.ty.now in
    bad_later c.args.judge.now c.ty.new.self t c.in_ok-id.ensures.kept (is_not_good t (c.in_ok-is_good.ensures.answer t c.in_ok-id.ensures.at) c.if-not-branch.true)

pub returns-clause-answer : goal.returns-clause-answer
returns-clause-answer c =
    let t = ty c.args.ty.now in
    let k = c.asked_untrusted.new.judge in
    let later = kept_more c.in_ok-is_good.ensures.kept c.in_ok-first.ensures.kept in (
      c.in_ok-first.first,
      c.begun_one_at-next.result,
      refl,
      c.in_ok-first.ensures.at,
      begins_later c.args.judge.now k k k (kept_more c.in_ok-id.ensures.kept later) (kept_same k).store (c.begun_one_at-next.ensures t (type_kept c.in_ok-id.id.place t later c.in_ok-id.ensures.at)),
      good_later c.args.judge.now c.ty.new.self t c.in_ok-id.ensures.kept (is_good t (c.in_ok-is_good.ensures.answer t c.in_ok-id.ensures.at) c.if-not-branch.false),
    )
