use Rattle.std.proofs.Common.{refl, ap, ◌≡◌, ◌+◌, length, arith}
use Rattle.spi_term.specs.Term.{pair_ty}
use Rattle.spi_term.specs.Spelling.{ty_nodes}
use Rattle.spi_term.specs.View.{message, ty}
use Rattle.spi_message.proofs.Tested.{kept_more, kept_same, type_kept}
use Rattle.spi_audit.proofs.FormPremises.{asked_later, begins_later}
use Rattle.spi_audit.proofs.FormUses.{is_good, is_not_good}
use Rattle.spi_audit.proofs.FormTyped.{good_later, bad_later, split_bad, split_fits}
use Rattle.spi_audit.proofs.forms.split_typed.Goals as goal

pub pair_over-requires-clause-first : goal.pair_over-requires-clause-first
pair_over-requires-clause-first c = record { type = ty c.args.first.now; means = type_kept c.in_ok-a.a.place (ty c.args.first.now) c.in_ok-b.ensures.kept c.in_ok-a.ensures.at }

pub is_good-requires : goal.is_good-requires
is_good-requires c =
    let t = ty c.args.first.now in
    let u = ty c.args.second.now in
    let nodes : ty_nodes (pair_ty t u) ≡ (ty_nodes t + ty_nodes u) + 1 = omega (arith) in
    record {
      type = pair_ty t u;
      means = c.in_ok-both.ensures.at t u (type_kept c.in_ok-a.a.place t c.in_ok-b.ensures.kept c.in_ok-a.ensures.at) c.in_ok-b.ensures.at;
      few = omega (arith, nodes, ap length c.in_ok-a.ensures.kept.types, ap length c.in_ok-b.ensures.kept.types, ap length c.in_ok-both.ensures.kept.types, c.requires);
    }

pub returns-then-not-branch-clause-answer : goal.returns-then-not-branch-clause-answer
returns-then-not-branch-clause-answer c =
    let t = ty c.args.first.now in
    let u = ty c.args.second.now in
    let both = c.in_ok-both.ensures.at t u (type_kept c.in_ok-a.a.place t c.in_ok-b.ensures.kept c.in_ok-a.ensures.at) c.in_ok-b.ensures.at in
    let kept = kept_more (kept_more c.in_ok-a.ensures.kept c.in_ok-b.ensures.kept) c.in_ok-both.ensures.kept in
    split_bad c.args.judge.now c.is_good.new.judge (message c.args.whole.now) t u c.args.body (pair_ty t u) refl
    (bad_later c.args.judge.now c.pair_over.new.self (pair_ty t u) kept (is_not_good (pair_ty t u) (c.in_ok-is_good.ensures.answer (pair_ty t u) both) c.if-not-branch.true))

pub begun_two_at-requires : goal.begun_two_at-requires
begun_two_at-requires c = record {
  type = ty c.args.second.now;
  means = type_kept c.in_ok-b.b.place (ty c.args.second.now) (kept_more (kept_more c.in_ok-both.ensures.kept c.in_ok-is_good.ensures.kept) c.in_ok-pair.ensures.kept) c.in_ok-b.ensures.at;
}

pub returns-clause-answer : goal.returns-clause-answer
returns-clause-answer c =
    let t = ty c.args.first.now in
    let u = ty c.args.second.now in
    let k = c.begun_two_at.new.judge in
    let both = c.in_ok-both.ensures.at t u (type_kept c.in_ok-a.a.place t c.in_ok-b.ensures.kept c.in_ok-a.ensures.at) c.in_ok-b.ensures.at in
    let later = kept_more (kept_more c.in_ok-both.ensures.kept c.in_ok-is_good.ensures.kept) c.in_ok-pair.ensures.kept in
    let kept = kept_more (kept_more c.in_ok-a.ensures.kept c.in_ok-b.ensures.kept) c.in_ok-both.ensures.kept in
    split_fits c.args.judge.now k (message c.args.whole.now) t u c.args.body (pair_ty t u) refl
    (good_later c.args.judge.now c.pair_over.new.self (pair_ty t u) kept (is_good (pair_ty t u) (c.in_ok-is_good.ensures.answer (pair_ty t u) both) c.if-not-branch.false))
    (asked_later c.in_ok-next.ensures.kept.store (c.in_ok-pair.ensures.at (pair_ty t u) (type_kept c.in_ok-both.both.place (pair_ty t u) c.in_ok-is_good.ensures.kept both)))
    (begins_later c.args.judge.now c.asked_at.new.judge k k (kept_more (kept_more c.in_ok-a.ensures.kept c.in_ok-b.ensures.kept) later) (kept_same k).store
    (c.in_ok-next.ensures.begins t u (type_kept c.in_ok-a.a.place t (kept_more c.in_ok-b.ensures.kept later) c.in_ok-a.ensures.at) (type_kept c.in_ok-b.b.place u later c.in_ok-b.ensures.at)))
