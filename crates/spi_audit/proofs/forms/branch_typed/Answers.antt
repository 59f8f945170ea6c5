use Rattle.std.proofs.Common.{refl, ap, length, arith}
use Rattle.spi_term.specs.Term.{sum_ty}
use Rattle.spi_term.specs.View.{message, ty}
use Rattle.spi_message.proofs.Tested.{kept_more, kept_same, type_kept}
use Rattle.spi_audit.proofs.FormPremises.{begins_later}
use Rattle.spi_audit.proofs.FormUses.{is_good, is_not_good}
use Rattle.spi_audit.proofs.FormTyped.{good_later, bad_later, branch_left_bad, branch_right_bad, branch_fits}
use Rattle.spi_audit.proofs.forms.branch_typed.Goals as goal

pub is_good-requires : goal.is_good-requires
is_good-requires c = record {
  type = ty c.args.left.now;
  means = type_kept c.in_ok-a.a.place (ty c.args.left.now) c.in_ok-b.ensures.kept c.in_ok-a.ensures.at;
  few = omega (arith, ap length c.in_ok-a.ensures.kept.types, ap length c.in_ok-b.ensures.kept.types, c.requires);
}

pub is_good-requires-2 : goal.is_good-requires-2
is_good-requires-2 c = record {
  type = ty c.args.right.now;
  means = type_kept c.in_ok-b.b.place (ty c.args.right.now) c.in_ok-is_good.ensures.kept c.in_ok-b.ensures.at;
  few = omega (arith, ap length c.in_ok-a.ensures.kept.types, ap length c.in_ok-b.ensures.kept.types, ap length c.in_ok-is_good.ensures.kept.types, c.requires);
}

pub returns-then-not-branch-clause-answer : goal.returns-then-not-branch-clause-answer
returns-then-not-branch-clause-answer c =
    let t = ty c.args.left.now in
    let u = ty c.args.right.now in
    let both = kept_more c.in_ok-a.ensures.kept c.in_ok-b.ensures.kept in
    branch_left_bad c.args.judge.now c.is_good.new.judge (message c.args.whole.now) t u c.args.on_left c.args.on_right
    (bad_later c.args.judge.now c.ty-2.new.self t both (is_not_good t (c.in_ok-is_good.ensures.answer t (type_kept c.in_ok-a.a.place t c.in_ok-b.ensures.kept c.in_ok-a.ensures.at)) c.if-not-branch.true))

pub returns-then-not-branch-2-clause-answer : goal.returns-then-not-branch-2-clause-answer
returns-then-not-branch-2-clause-answer c =
    let t = ty c.args.left.now in
    let u = ty c.args.right.now in
    let both = kept_more c.in_ok-a.ensures.kept c.in_ok-b.ensures.kept in
    branch_right_bad c.args.judge.now c.is_good-2.new.judge (message c.args.whole.now) t u c.args.on_left c.args.on_right
    (bad_later c.args.judge.now c.is_good.new.judge u (kept_more both c.in_ok-is_good.ensures.kept) (is_not_good u (c.in_ok-is_good-2.ensures.answer u (type_kept c.in_ok-b.b.place u c.in_ok-is_good.ensures.kept c.in_ok-b.ensures.at)) c.if-not-branch-2.true))

pub sum_over-requires-clause-left : goal.sum_over-requires-clause-left
sum_over-requires-clause-left c = record {
  type = ty c.args.left.now;
  means = type_kept c.in_ok-a.a.place (ty c.args.left.now) (kept_more (kept_more c.in_ok-b.ensures.kept c.in_ok-is_good.ensures.kept) c.in_ok-is_good-2.ensures.kept) c.in_ok-a.ensures.at;
}

pub sum_over-requires-clause-right : goal.sum_over-requires-clause-right
sum_over-requires-clause-right c = record {
  type = ty c.args.right.now;
  means = type_kept c.in_ok-b.b.place (ty c.args.right.now) (kept_more c.in_ok-is_good.ensures.kept c.in_ok-is_good-2.ensures.kept) c.in_ok-b.ensures.at;
}

pub returns-clause-answer : goal.returns-clause-answer
returns-clause-answer c =
    let t = ty c.args.left.now in
    let u = ty c.args.right.now in
    let k = c.asked_at.new.judge in
    let both = kept_more c.in_ok-a.ensures.kept c.in_ok-b.ensures.kept in
    let tested = kept_more c.in_ok-is_good.ensures.kept c.in_ok-is_good-2.ensures.kept in
    let later = kept_more c.in_ok-both.ensures.kept c.in_ok-sum.ensures.kept in
    let first = type_kept c.in_ok-a.a.place t c.in_ok-b.ensures.kept c.in_ok-a.ensures.at in
    let left = type_kept c.in_ok-a.a.place t tested first in
    let right = type_kept c.in_ok-b.b.place u tested c.in_ok-b.ensures.at in
    let kept = kept_more (kept_more both tested) later in
    branch_fits c.args.judge.now k (message c.args.whole.now) t u c.args.on_left c.args.on_right (sum_ty t u) refl
    (good_later c.args.judge.now c.ty-2.new.self t both (is_good t (c.in_ok-is_good.ensures.answer t first) c.if-not-branch.false))
    (good_later c.args.judge.now c.is_good.new.judge u (kept_more both c.in_ok-is_good.ensures.kept) (is_good u (c.in_ok-is_good-2.ensures.answer u (type_kept c.in_ok-b.b.place u c.in_ok-is_good.ensures.kept c.in_ok-b.ensures.at)) c.if-not-branch-2.false))
    (c.in_ok-sum.ensures.at (sum_ty t u) (c.in_ok-both.ensures.at t u left right))
    (begins_later c.args.judge.now k k k kept (kept_same k).store (c.begun_one_at-first.ensures t (type_kept c.in_ok-a.a.place t later left)))
    (begins_later c.args.judge.now k k k kept (kept_same k).store (c.begun_one_at-rest.ensures u (type_kept c.in_ok-b.b.place u later right)))
