use Rattle.std.proofs.Common.{Bool, ◌&&◌, ap, length, arith}
use Rattle.spi_term.specs.Term.{sum_ty, un}
use Rattle.spi_term.specs.View.{ty}
use Rattle.spi_rules.specs.Environment.{Env}
use Rattle.spi_term.proofs.Choices.{if_ok}
use Rattle.spi_message.specs.Tests.{is_un, typed, good}
use Rattle.spi_message.proofs.Tested.{kept_more, message_kept, type_kept}
use Rattle.spi_infer.proofs.Asked.{is_type, message_later, type_later, answered_later, one_holds, other_holds, tested_where}
use Rattle.spi_infer.proofs.asking.is_branch_ok.Goals as goal

pub is_branch_typed-requires-clause-message : goal.is_branch_typed-requires-clause-message
is_branch_typed-requires-clause-message c = message_later {j = c.args.judge.now} {k = c.sum_over.new.self} c.args.terms.message c.in_ok-both.ensures.kept c.requires.message

pub is_branch_typed-requires-clause-both : goal.is_branch_typed-requires-clause-both
is_branch_typed-requires-clause-both c = is_type c.sum_over.new.self (c.in_ok-both.ensures.at (ty c.args.left.now) (ty c.args.right.now) c.requires.left c.requires.right)

pub is_branch_typed-requires-clause-left : goal.is_branch_typed-requires-clause-left
is_branch_typed-requires-clause-left c = record {
  type = ty c.args.left.now;
  means = type_kept {j = c.args.judge.now} {k = c.sum_over.new.self} c.args.terms.ty.place (ty c.args.left.now) c.in_ok-both.ensures.kept c.requires.left;
  few = omega (arith, ap length c.in_ok-both.ensures.kept.types, c.requires.small);
}

pub is_branch_typed-requires-clause-right : goal.is_branch_typed-requires-clause-right
is_branch_typed-requires-clause-right c = record {
  type = ty c.args.right.now;
  means = type_kept {j = c.args.judge.now} {k = c.sum_over.new.self} c.args.terms.second.place (ty c.args.right.now) c.in_ok-both.ensures.kept c.requires.right;
  few = omega (arith, ap length c.in_ok-both.ensures.kept.types, c.requires.small);
}

pub is_typed_where-requires-clause-message : goal.is_typed_where-requires-clause-message
is_typed_where-requires-clause-message c =
    message_later {j = c.args.judge.now} {k = c.is_branch_typed.new.judge} c.args.terms.message (kept_more c.in_ok-both.ensures.kept c.in_ok-typed.ensures.kept) c.requires.message

pub is_typed_where-requires-clause-ty : goal.is_typed_where-requires-clause-ty
is_typed_where-requires-clause-ty c =
    type_later {j = c.args.judge.now} {k = c.is_branch_typed.new.judge} (kept_more c.in_ok-both.ensures.kept c.in_ok-typed.ensures.kept) (is_type c.args.judge.now c.requires.un)

pub returns-then-typed-clause-answer : goal.returns-then-typed-clause-answer
returns-then-typed-clause-answer c m a =
    let k = c.in_ok-both.ensures.kept in
    let t = ty c.args.left.now in
    let u = ty c.args.right.now in
    let F : Env → Bool = λ e. typed m e (sum_ty t u) && (good e t && good e u) in
    one_holds {j = c.args.judge.now} F (λ e. typed m e un && (is_un t && is_un u)) (answered_later {j = c.args.judge.now} {k = c.sum_over.new.self} F k (c.in_ok-typed.ensures.answer m t u (sum_ty t u) (message_kept {j = c.args.judge.now} {k = c.sum_over.new.self} c.args.terms.message.place m k a) (type_kept {j = c.args.judge.now} {k = c.sum_over.new.self} c.args.terms.ty.place t k c.requires.left) (type_kept {j = c.args.judge.now} {k = c.sum_over.new.self} c.args.terms.second.place u k c.requires.right) (c.in_ok-both.ensures.at (ty c.args.left.now) (ty c.args.right.now) c.requires.left c.requires.right))) c.if-typed.true

pub returns-else-typed-clause-answer : goal.returns-else-typed-clause-answer
returns-else-typed-clause-answer c =
    let k = c.in_ok-both.ensures.kept in
    let l = kept_more k c.in_ok-typed.ensures.kept in
    let t = ty c.args.left.now in
    let u = ty c.args.right.now in
    if_ok c.is_typed_where.result (λ b f m a.
    let F : Env → Bool = λ e. typed m e (sum_ty t u) && (good e t && good e u) in
    other_holds {j = c.args.judge.now} {k = c.is_branch_typed.new.judge} F (λ e. typed m e un && (is_un t && is_un u)) (answered_later {j = c.args.judge.now} {k = c.sum_over.new.self} F k (c.in_ok-typed.ensures.answer m t u (sum_ty t u) (message_kept {j = c.args.judge.now} {k = c.sum_over.new.self} c.args.terms.message.place m k a) (type_kept {j = c.args.judge.now} {k = c.sum_over.new.self} c.args.terms.ty.place t k c.requires.left) (type_kept {j = c.args.judge.now} {k = c.sum_over.new.self} c.args.terms.second.place u k c.requires.right) (c.in_ok-both.ensures.at (ty c.args.left.now) (ty c.args.right.now) c.requires.left c.requires.right))) c.if-typed.false l (tested_where {j = c.is_branch_typed.new.judge} (λ e. typed m e un) c.are_un-untrusted.ensures (f m un (message_kept {j = c.args.judge.now} {k = c.is_branch_typed.new.judge} c.args.terms.message.place m l a) (type_kept {j = c.args.judge.now} {k = c.is_branch_typed.new.judge} c.args.terms.un.place un l c.requires.un)))) c.is_typed_where.ensures.answer
