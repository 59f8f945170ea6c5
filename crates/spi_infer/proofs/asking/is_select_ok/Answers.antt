use Rattle.std.proofs.Common.{Bool, ◌&&◌, ap, length, arith}
use Rattle.spi_term.specs.Term.{pair_ty, un}
use Rattle.spi_term.specs.View.{ty}
use Rattle.spi_rules.specs.Environment.{Env}
use Rattle.spi_term.proofs.Choices.{if_ok}
use Rattle.spi_message.specs.Tests.{is_un, typed, good}
use Rattle.spi_message.proofs.Tested.{kept_more, message_kept, type_kept}
use Rattle.spi_infer.proofs.Asked.{is_type, message_later, type_later, answered_later, one_holds, other_holds, tested_after}
use Rattle.spi_infer.proofs.asking.is_select_ok.Goals as goal

pub is_select_typed-requires-clause-message : goal.is_select_typed-requires-clause-message
is_select_typed-requires-clause-message c = message_later {j = c.args.judge.now} {k = c.pair_over.new.self} c.args.terms.message c.in_ok-both.ensures.kept c.requires.message

pub is_select_typed-requires-clause-other : goal.is_select_typed-requires-clause-other
is_select_typed-requires-clause-other c = message_later {j = c.args.judge.now} {k = c.pair_over.new.self} c.args.terms.other c.in_ok-both.ensures.kept c.requires.other

pub is_select_typed-requires-clause-ty : goal.is_select_typed-requires-clause-ty
is_select_typed-requires-clause-ty c = type_later {j = c.args.judge.now} {k = c.pair_over.new.self} c.in_ok-both.ensures.kept (is_type c.args.judge.now c.requires.first)

pub is_select_typed-requires-clause-both : goal.is_select_typed-requires-clause-both
is_select_typed-requires-clause-both c = record {
  type = pair_ty (ty c.args.first.now) (ty c.args.second.now);
  means = c.in_ok-both.ensures.at (ty c.args.first.now) (ty c.args.second.now) c.requires.first c.requires.second;
  few = omega (arith, ap length c.in_ok-both.ensures.kept.types, c.requires.small);
}

pub is_select_untrusted-requires-clause-un : goal.is_select_untrusted-requires-clause-un
is_select_untrusted-requires-clause-un c =
    type_kept {j = c.args.judge.now} {k = c.is_select_typed.new.judge} c.args.terms.un.place un (kept_more c.in_ok-both.ensures.kept c.in_ok-typed.ensures.kept) c.requires.un

pub is_select_untrusted-requires-clause-message : goal.is_select_untrusted-requires-clause-message
is_select_untrusted-requires-clause-message c =
    message_later {j = c.args.judge.now} {k = c.is_select_typed.new.judge} c.args.terms.message (kept_more c.in_ok-both.ensures.kept c.in_ok-typed.ensures.kept) c.requires.message

pub is_select_untrusted-requires-clause-other : goal.is_select_untrusted-requires-clause-other
is_select_untrusted-requires-clause-other c =
    message_later {j = c.args.judge.now} {k = c.is_select_typed.new.judge} c.args.terms.other (kept_more c.in_ok-both.ensures.kept c.in_ok-typed.ensures.kept) c.requires.other

pub returns-then-typed-clause-answer : goal.returns-then-typed-clause-answer
returns-then-typed-clause-answer c m n a d =
    let k = c.in_ok-both.ensures.kept in
    let t = ty c.args.first.now in
    let p = pair_ty (ty c.args.first.now) (ty c.args.second.now) in
    let F : Env → Bool = λ e. typed m e p && (typed n e t && good e p) in
    one_holds {j = c.args.judge.now} F (λ e. typed m e un && (typed n e un && (is_un t && is_un (ty c.args.second.now)))) (answered_later {j = c.args.judge.now} {k = c.pair_over.new.self} F k (c.in_ok-typed.ensures.answer m n t p (message_kept {j = c.args.judge.now} {k = c.pair_over.new.self} c.args.terms.message.place m k a) (message_kept {j = c.args.judge.now} {k = c.pair_over.new.self} c.args.terms.other.place n k d) (type_kept {j = c.args.judge.now} {k = c.pair_over.new.self} c.args.terms.ty.place t k c.requires.first) (c.in_ok-both.ensures.at (ty c.args.first.now) (ty c.args.second.now) c.requires.first c.requires.second))) c.if-typed.true

pub returns-else-typed-clause-answer : goal.returns-else-typed-clause-answer
returns-else-typed-clause-answer c =
    let k = c.in_ok-both.ensures.kept in
    let l = kept_more k c.in_ok-typed.ensures.kept in
    let t = ty c.args.first.now in
    let p = pair_ty (ty c.args.first.now) (ty c.args.second.now) in
    if_ok c.is_select_untrusted.result (λ b f m n a d.
    let F : Env → Bool = λ e. typed m e p && (typed n e t && good e p) in
    other_holds {j = c.args.judge.now} {k = c.is_select_typed.new.judge} F (λ e. typed m e un && (typed n e un && (is_un t && is_un (ty c.args.second.now)))) (answered_later {j = c.args.judge.now} {k = c.pair_over.new.self} F k (c.in_ok-typed.ensures.answer m n t p (message_kept {j = c.args.judge.now} {k = c.pair_over.new.self} c.args.terms.message.place m k a) (message_kept {j = c.args.judge.now} {k = c.pair_over.new.self} c.args.terms.other.place n k d) (type_kept {j = c.args.judge.now} {k = c.pair_over.new.self} c.args.terms.ty.place t k c.requires.first) (c.in_ok-both.ensures.at (ty c.args.first.now) (ty c.args.second.now) c.requires.first c.requires.second))) c.if-typed.false l (tested_after {j = c.is_select_typed.new.judge} (λ e. typed m e un) (λ e. typed n e un) c.are_un-untrusted.ensures (f m n (message_kept {j = c.args.judge.now} {k = c.is_select_typed.new.judge} c.args.terms.message.place m l a) (message_kept {j = c.args.judge.now} {k = c.is_select_typed.new.judge} c.args.terms.other.place n l d)))) c.is_select_untrusted.ensures.answer
