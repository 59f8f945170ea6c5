use Rattle.spi_term.specs.Term.{un}
use Rattle.spi_term.proofs.Choices.{if_ok}
use Rattle.spi_message.specs.Tests.{typed}
use Rattle.spi_message.proofs.Tested.{message_kept, type_kept}
use Rattle.spi_infer.proofs.Asked.{is_type, message_later, type_later, both_hold, one_fails}
use Rattle.spi_infer.proofs.asking.are_untrusted.Goals as goal

pub is_typed-requires-then-first-clause-message : goal.is_typed-requires-then-first-clause-message
is_typed-requires-then-first-clause-message c = message_later {j = c.args.judge.now} {k = c.is_typed.new.judge} c.args.terms.other c.in_ok-first.ensures.kept c.requires.other

pub is_typed-requires-then-first-clause-ty : goal.is_typed-requires-then-first-clause-ty
is_typed-requires-then-first-clause-ty c = type_later {j = c.args.judge.now} {k = c.is_typed.new.judge} c.in_ok-first.ensures.kept (is_type c.args.judge.now c.requires.un)

pub returns-then-first-clause-answer : goal.returns-then-first-clause-answer
returns-then-first-clause-answer c =
    let k = c.in_ok-first.ensures.kept in
    if_ok c.is_typed-then-first.result (λ b f m n a d. both_hold {j = c.args.judge.now} {k = c.is_typed.new.judge} (λ e. typed m e un) (λ e. typed n e un) (c.in_ok-first.ensures.answer m un a c.requires.un) c.if-first.true k (f n un (message_kept {j = c.args.judge.now} {k = c.is_typed.new.judge} c.args.terms.other.place n k d) (type_kept {j = c.args.judge.now} {k = c.is_typed.new.judge} c.args.terms.un.place un k c.requires.un))) c.is_typed-then-first.ensures.answer

pub returns-else-first-clause-answer : goal.returns-else-first-clause-answer
returns-else-first-clause-answer c m n a d =
    one_fails {j = c.args.judge.now} (λ e. typed m e un) (λ e. typed n e un) (c.in_ok-first.ensures.answer m un a c.requires.un) c.if-first.false
