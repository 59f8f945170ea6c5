use Rattle.std.proofs.Common.{◌&&◌, ◌||◌, ap, length, arith}
use Rattle.spi_term.specs.Term.{key, un}
use Rattle.spi_term.specs.View.{ty}
use Rattle.spi_term.proofs.Choices.{if_ok}
use Rattle.spi_message.specs.Tests.{is_un, typed, good}
use Rattle.spi_message.proofs.Tested.{message_kept, type_kept}
use Rattle.spi_infer.proofs.Asked.{is_type, message_later, answered_later, tested_or}
use Rattle.spi_infer.proofs.asking.is_key_ok.Goals as goal

pub is_typed_or_untrusted-requires-clause-un : goal.is_typed_or_untrusted-requires-clause-un
is_typed_or_untrusted-requires-clause-un c = type_kept {j = c.args.judge.now} {k = c.key_over.new.self} c.args.terms.un.place un c.in_ok-wanted.ensures.kept c.requires.un

pub is_typed_or_untrusted-requires-clause-message : goal.is_typed_or_untrusted-requires-clause-message
is_typed_or_untrusted-requires-clause-message c = message_later {j = c.args.judge.now} {k = c.key_over.new.self} c.args.terms.other c.in_ok-wanted.ensures.kept c.requires.other

pub is_typed_or_untrusted-requires-clause-ty : goal.is_typed_or_untrusted-requires-clause-ty
is_typed_or_untrusted-requires-clause-ty c = is_type c.key_over.new.self (c.in_ok-wanted.ensures.at (ty c.args.t.now) c.requires.ty)

pub is_typed_or_untrusted-requires-clause-over : goal.is_typed_or_untrusted-requires-clause-over
is_typed_or_untrusted-requires-clause-over c = record {
  type = ty c.args.t.now;
  means = type_kept {j = c.args.judge.now} {k = c.key_over.new.self} c.args.terms.ty.place (ty c.args.t.now) c.in_ok-wanted.ensures.kept c.requires.ty;
  few = omega (arith, ap length c.in_ok-wanted.ensures.kept.types, c.requires.small);
}

pub returns-clause-answer : goal.returns-clause-answer
returns-clause-answer c =
    let k = c.in_ok-wanted.ensures.kept in
    let t = ty c.args.t.now in
    if_ok c.is_typed_or_untrusted.result (λ b f n d. answered_later {j = c.args.judge.now} {k = c.key_over.new.self} (λ e. (typed n e (key t) && good e t) || (typed n e un && is_un t)) k (tested_or {j = c.key_over.new.self} (λ e. typed n e (key t) && good e t) (λ e. typed n e un) c.is_un_type-untrusted.ensures (f n (key t) t (message_kept {j = c.args.judge.now} {k = c.key_over.new.self} c.args.terms.other.place n k d) (c.in_ok-wanted.ensures.at (ty c.args.t.now) c.requires.ty) (type_kept {j = c.args.judge.now} {k = c.key_over.new.self} c.args.terms.ty.place t k c.requires.ty)))) c.is_typed_or_untrusted.ensures.answer
