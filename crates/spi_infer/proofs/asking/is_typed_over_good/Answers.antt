use Rattle.spi_term.proofs.Choices.{if_ok}
use Rattle.spi_message.specs.Tests.{typed, good}
use Rattle.spi_message.proofs.Tested.{type_kept}
use Rattle.spi_infer.proofs.Asked.{small_later, both_hold, one_fails}
use Rattle.spi_infer.proofs.asking.is_typed_over_good.Goals as goal

pub is_good-requires : goal.is_good-requires
is_good-requires c = small_later {j = c.args.judge.now} {k = c.is_typed.new.judge} c.in_ok-first.ensures.kept c.requires.over

pub returns-then-first-clause-answer : goal.returns-then-first-clause-answer
returns-then-first-clause-answer c =
    let k = c.in_ok-first.ensures.kept in
    if_ok c.is_good.result (λ b f n u v a w x. both_hold {j = c.args.judge.now} {k = c.is_typed.new.judge} (λ e. typed n e u) (λ e. good e v) (c.in_ok-first.ensures.answer n u a w) c.if-first.true k (f v (type_kept {j = c.args.judge.now} {k = c.is_typed.new.judge} c.args.over.place v k x))) c.is_good.ensures.answer

pub returns-else-first-clause-answer : goal.returns-else-first-clause-answer
returns-else-first-clause-answer c n u v a w x =
    one_fails {j = c.args.judge.now} (λ e. typed n e u) (λ e. good e v) (c.in_ok-first.ensures.answer n u a w) c.if-first.false
