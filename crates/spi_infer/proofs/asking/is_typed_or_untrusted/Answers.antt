use Rattle.std.proofs.Common.{◌&&◌}
use Rattle.spi_term.specs.Term.{un}
use Rattle.spi_term.proofs.Choices.{if_ok}
use Rattle.spi_message.specs.Tests.{typed, good}
use Rattle.spi_message.proofs.Tested.{message_kept, type_kept}
use Rattle.spi_infer.proofs.Asked.{is_type, message_later, type_later, one_holds, other_holds}
use Rattle.spi_infer.proofs.asking.is_typed_or_untrusted.Goals as goal

pub is_typed_where-requires-clause-message : goal.is_typed_where-requires-clause-message
is_typed_where-requires-clause-message c = message_later {j = c.args.judge.now} {k = c.is_typed_over_good.new.judge} c.args.m c.in_ok-typed.ensures.kept c.requires.message

pub is_typed_where-requires-clause-ty : goal.is_typed_where-requires-clause-ty
is_typed_where-requires-clause-ty c = type_later {j = c.args.judge.now} {k = c.is_typed_over_good.new.judge} c.in_ok-typed.ensures.kept (is_type c.args.judge.now c.requires.un)

pub returns-then-typed-clause-answer : goal.returns-then-typed-clause-answer
returns-then-typed-clause-answer c n u v a w x =
    one_holds {j = c.args.judge.now} (λ e. typed n e u && good e v) (λ e. typed n e un && c.args.holds) (c.in_ok-typed.ensures.answer n u v a w x) c.if-typed.true

pub returns-else-typed-clause-answer : goal.returns-else-typed-clause-answer
returns-else-typed-clause-answer c =
    let k = c.in_ok-typed.ensures.kept in
    if_ok c.is_typed_where.result (λ b f n u v a w x. other_holds {j = c.args.judge.now} {k = c.is_typed_over_good.new.judge} (λ e. typed n e u && good e v) (λ e. typed n e un && c.args.holds) (c.in_ok-typed.ensures.answer n u v a w x) c.if-typed.false k (f n un (message_kept {j = c.args.judge.now} {k = c.is_typed_over_good.new.judge} c.args.m.place n k a) (type_kept {j = c.args.judge.now} {k = c.is_typed_over_good.new.judge} c.args.terms.un.place un k c.requires.un))) c.is_typed_where.ensures.answer
