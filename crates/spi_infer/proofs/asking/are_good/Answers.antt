use Rattle.spi_term.proofs.Choices.{if_ok}
use Rattle.spi_message.specs.Tests.{good}
use Rattle.spi_message.proofs.Tested.{type_kept}
use Rattle.spi_infer.proofs.Asked.{small_later, both_hold, one_fails}
use Rattle.spi_infer.proofs.asking.are_good.Goals as goal

pub is_good-requires-then-first : goal.is_good-requires-then-first
is_good-requires-then-first c = small_later {j = c.args.judge.now} {k = c.is_good.new.judge} c.in_ok-first.ensures.kept c.requires.right

pub returns-then-first-clause-answer : goal.returns-then-first-clause-answer
returns-then-first-clause-answer c =
    let k = c.in_ok-first.ensures.kept in
    if_ok c.is_good-then-first.result (λ b f t u v w. both_hold {j = c.args.judge.now} {k = c.is_good.new.judge} (λ e. good e t) (λ e. good e u) (c.in_ok-first.ensures.answer t v) c.if-first.true k (f u (type_kept {j = c.args.judge.now} {k = c.is_good.new.judge} c.args.right.place u k w))) c.is_good-then-first.ensures.answer

pub returns-else-first-clause-answer : goal.returns-else-first-clause-answer
returns-else-first-clause-answer c t u v w =
    one_fails {j = c.args.judge.now} (λ e. good e t) (λ e. good e u) (c.in_ok-first.ensures.answer t v) c.if-first.false
