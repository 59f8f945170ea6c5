use Rattle.std.proofs.Common.{◌&&◌}
use Rattle.spi_term.specs.Term.{un}
use Rattle.spi_term.proofs.Choices.{if_ok}
use Rattle.spi_message.specs.Tests.{typed}
use Rattle.spi_message.proofs.Tested.{message_kept, type_kept}
use Rattle.spi_infer.proofs.Asked.{is_type, message_later, type_later, both_hold, one_fails}
use Rattle.spi_infer.proofs.asking.is_select_untrusted.Goals as goal

pub is_typed_where-requires-clause-message : goal.is_typed_where-requires-clause-message
is_typed_where-requires-clause-message c = message_later {j = c.args.judge.now} {k = c.is_typed.new.judge} c.args.terms.other c.in_ok-whole.ensures.kept c.requires.other

pub is_typed_where-requires-clause-ty : goal.is_typed_where-requires-clause-ty
is_typed_where-requires-clause-ty c = type_later {j = c.args.judge.now} {k = c.is_typed.new.judge} c.in_ok-whole.ensures.kept (is_type c.args.judge.now c.requires.un)

pub returns-then-whole-clause-answer : goal.returns-then-whole-clause-answer
returns-then-whole-clause-answer c =
    let k = c.in_ok-whole.ensures.kept in
    if_ok c.is_typed_where.result (λ b f m n a d. both_hold {j = c.args.judge.now} {k = c.is_typed.new.judge} (λ e. typed m e un) (λ e. typed n e un && c.args.holds) (c.in_ok-whole.ensures.answer m un a c.requires.un) c.if-whole.true k (f n un (message_kept {j = c.args.judge.now} {k = c.is_typed.new.judge} c.args.terms.other.place n k d) (type_kept {j = c.args.judge.now} {k = c.is_typed.new.judge} c.args.terms.un.place un k c.requires.un))) c.is_typed_where.ensures.answer

pub returns-else-whole-clause-answer : goal.returns-else-whole-clause-answer
returns-else-whole-clause-answer c m n a d =
    one_fails {j = c.args.judge.now} (λ e. typed m e un) (λ e. typed n e un && c.args.holds) (c.in_ok-whole.ensures.answer m un a c.requires.un) c.if-whole.false
