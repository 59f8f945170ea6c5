use Rattle.std.proofs.Common.{◌&&◌, ap, length, arith}
use Rattle.spi_term.specs.Term.{pair_ty, un}
use Rattle.spi_term.specs.View.{ty}
use Rattle.spi_term.proofs.Choices.{if_ok}
use Rattle.spi_message.specs.Tests.{typed, good}
use Rattle.spi_message.proofs.Tested.{message_kept, type_kept}
use Rattle.spi_infer.specs.Forms.{prefix_ok}
use Rattle.spi_term.specs.Term.{Splits}
use Rattle.spi_infer.proofs.Asked.{is_type, message_later, answered_later, tested_or}
use Rattle.spi_infer.proofs.asking.is_split_ok.Goals as goal

pub is_typed_or_untrusted-requires-clause-un : goal.is_typed_or_untrusted-requires-clause-un
is_typed_or_untrusted-requires-clause-un c = type_kept {j = c.args.judge.now} {k = c.pair_over.new.self} c.args.terms.un.place un c.in_ok-both.ensures.kept c.requires.un

pub is_typed_or_untrusted-requires-clause-message : goal.is_typed_or_untrusted-requires-clause-message
is_typed_or_untrusted-requires-clause-message c = message_later {j = c.args.judge.now} {k = c.pair_over.new.self} c.args.terms.message c.in_ok-both.ensures.kept c.requires.message

pub is_typed_or_untrusted-requires-clause-ty : goal.is_typed_or_untrusted-requires-clause-ty
is_typed_or_untrusted-requires-clause-ty c = is_type c.pair_over.new.self (c.in_ok-both.ensures.at (ty c.args.first.now) (ty c.args.second.now) c.requires.first c.requires.second)

pub is_typed_or_untrusted-requires-clause-over : goal.is_typed_or_untrusted-requires-clause-over
is_typed_or_untrusted-requires-clause-over c = record {
  type = pair_ty (ty c.args.first.now) (ty c.args.second.now);
  means = c.in_ok-both.ensures.at (ty c.args.first.now) (ty c.args.second.now) c.requires.first c.requires.second;
  few = omega (arith, ap length c.in_ok-both.ensures.kept.types, c.requires.small);
}

pub returns-clause-answer : goal.returns-clause-answer
returns-clause-answer c =
    let k = c.in_ok-both.ensures.kept in
    let p = pair_ty (ty c.args.first.now) (ty c.args.second.now) in
    let w = c.in_ok-both.ensures.at (ty c.args.first.now) (ty c.args.second.now) c.requires.first c.requires.second in
    if_ok c.is_typed_or_untrusted.result (λ b f m a. answered_later {j = c.args.judge.now} {k = c.pair_over.new.self} (λ e. prefix_ok e (Splits m (ty c.args.first.now) (ty c.args.second.now))) k (tested_or {j = c.pair_over.new.self} (λ e. typed m e p && good e p) (λ e. typed m e un) c.are_un-untrusted.ensures (f m p p (message_kept {j = c.args.judge.now} {k = c.pair_over.new.self} c.args.terms.message.place m k a) w w))) c.is_typed_or_untrusted.ensures.answer
