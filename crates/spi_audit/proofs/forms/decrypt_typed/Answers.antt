use Rattle.std.proofs.Common.{refl}
use Rattle.spi_term.specs.Term.{key}
use Rattle.spi_term.specs.View.{message, ty}
use Rattle.spi_message.proofs.Tested.{kept_more, kept_same, type_kept}
use Rattle.spi_audit.proofs.FormPremises.{asked_later, begins_later}
use Rattle.spi_audit.proofs.FormUses.{is_good, is_not_good}
use Rattle.spi_audit.proofs.FormTyped.{good_later, bad_later, decrypt_bad, decrypt_fits}
use Rattle.spi_audit.proofs.forms.decrypt_typed.Goals as goal

pub returns-then-not-branch-clause-answer : goal.returns-then-not-branch-clause-answer
returns-then-not-branch-clause-answer c =
    let t = ty c.args.ty.now in
    decrypt_bad c.args.judge.now c.is_good.new.judge (message c.args.whole.now) t (message c.args.key.now) c.args.body
    (bad_later c.args.judge.now c.ty.new.self t c.in_ok-id.ensures.kept (is_not_good t (c.in_ok-is_good.ensures.answer t c.in_ok-id.ensures.at) c.if-not-branch.true))

pub key_over-requires : goal.key_over-requires
key_over-requires c = record { type = ty c.args.ty.now; means = type_kept c.in_ok-id.id.place (ty c.args.ty.now) c.in_ok-is_good.ensures.kept c.in_ok-id.ensures.at }

pub returns-clause-answer : goal.returns-clause-answer
returns-clause-answer c =
    let t = ty c.args.ty.now in
    let k = c.asked_at.new.judge in
    let tested = type_kept c.in_ok-id.id.place t c.in_ok-is_good.ensures.kept c.in_ok-id.ensures.at in
    let wanted = c.in_ok-wanted.ensures.at t tested in
    let later = kept_more (kept_more c.in_ok-wanted.ensures.kept c.in_ok-sealed.ensures.kept) c.in_ok-by.ensures.kept in
    let kept = kept_more (kept_more c.in_ok-id.ensures.kept c.in_ok-is_good.ensures.kept) later in
    decrypt_fits c.args.judge.now k (message c.args.whole.now) t (message c.args.key.now) c.args.body (key t) refl
    (good_later c.args.judge.now c.ty.new.self t c.in_ok-id.ensures.kept (is_good t (c.in_ok-is_good.ensures.answer t c.in_ok-id.ensures.at) c.if-not-branch.false))
    (asked_later c.in_ok-by.ensures.kept.store c.in_ok-sealed.ensures.at)
    (c.in_ok-by.ensures.at (key t) (type_kept c.in_ok-wanted.wanted.place (key t) c.in_ok-sealed.ensures.kept wanted))
    (begins_later c.args.judge.now k k k kept (kept_same k).store (c.begun_one_at-next.ensures t (type_kept c.in_ok-id.id.place t later tested)))
