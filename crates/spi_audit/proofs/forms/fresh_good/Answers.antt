use Rattle.std.proofs.Common.{sym, ap, ◌∙◌, length, arith}
use Rattle.spi_term.specs.View.{ty}
use Rattle.spi_message.proofs.Tested.{kept_more, kept_same, type_kept}
use Rattle.spi_audit.proofs.FormPremises.{begins_later}
use Rattle.spi_audit.proofs.FormUses.{is_good, is_not_good}
use Rattle.spi_audit.proofs.FormTyped.{good_later, bad_later, fresh_other, fresh_bad, fresh_fits}
use Rattle.spi_audit.proofs.forms.fresh_good.Goals as goal

pub is_good-requires : goal.is_good-requires
is_good-requires c = record { type = ty c.args.ty.now; means = c.in_ok-id.ensures.at; few = omega (arith, ap length c.in_ok-id.ensures.kept.types, c.requires) }

pub returns-then-not-is_fresh_type-clause-answer : goal.returns-then-not-is_fresh_type-clause-answer
returns-then-not-is_fresh_type-clause-answer c = fresh_other c.args.judge.now c.args.judge.now (ty c.args.ty.now) c.args.body (sym c.is_fresh_type.ensures ∙ c.if-not-is_fresh_type.true)

pub returns-then-not-branch-clause-answer : goal.returns-then-not-branch-clause-answer
returns-then-not-branch-clause-answer c =
    let t = ty c.args.ty.now in
    fresh_bad c.args.judge.now c.is_good.new.judge t c.args.body
    (bad_later c.args.judge.now c.ty.new.self t c.in_ok-id.ensures.kept (is_not_good t (c.in_ok-is_good.ensures.answer t c.in_ok-id.ensures.at) c.if-not-branch.true))

pub returns-clause-answer : goal.returns-clause-answer
returns-clause-answer c =
    let t = ty c.args.ty.now in
    let k = c.is_good.new.judge in
    let kept = kept_more c.in_ok-id.ensures.kept c.in_ok-is_good.ensures.kept in
    fresh_fits c.args.judge.now k t c.args.body (sym c.is_fresh_type.ensures ∙ c.if-not-is_fresh_type.false)
    (good_later c.args.judge.now c.ty.new.self t c.in_ok-id.ensures.kept (is_good t (c.in_ok-is_good.ensures.answer t c.in_ok-id.ensures.at) c.if-not-branch.false))
    (begins_later c.args.judge.now k k k kept (kept_same k).store (c.begun_one_at-next.ensures t (type_kept c.in_ok-id.id.place t c.in_ok-is_good.ensures.kept c.in_ok-id.ensures.at)))
