use Rattle.std.proofs.Common.{◌&&◌}
use Rattle.spi_term.proofs.Choices.{if_ok}
use Rattle.spi_message.specs.Tests.{typed, good}
use Rattle.spi_message.proofs.Tested.{type_kept}
use Rattle.spi_infer.proofs.Asked.{small_later, both_hold, one_fails}
use Rattle.spi_infer.proofs.asking.is_branch_typed.Goals as goal

pub are_good-requires-clause-left : goal.are_good-requires-clause-left
are_good-requires-clause-left c = small_later {j = c.args.judge.now} {k = c.is_typed.new.judge} c.in_ok-whole.ensures.kept c.requires.left

pub are_good-requires-clause-right : goal.are_good-requires-clause-right
are_good-requires-clause-right c = small_later {j = c.args.judge.now} {k = c.is_typed.new.judge} c.in_ok-whole.ensures.kept c.requires.right

pub returns-then-whole-clause-answer : goal.returns-then-whole-clause-answer
returns-then-whole-clause-answer c =
    let k = c.in_ok-whole.ensures.kept in
    if_ok c.are_good.result (λ b f m t u s a v w x. both_hold {j = c.args.judge.now} {k = c.is_typed.new.judge} (λ e. typed m e s) (λ e. good e t && good e u) (c.in_ok-whole.ensures.answer m s a x) c.if-whole.true k (f t u (type_kept {j = c.args.judge.now} {k = c.is_typed.new.judge} c.args.terms.ty.place t k v) (type_kept {j = c.args.judge.now} {k = c.is_typed.new.judge} c.args.terms.second.place u k w))) c.are_good.ensures.answer

pub returns-else-whole-clause-answer : goal.returns-else-whole-clause-answer
returns-else-whole-clause-answer c m t u s a v w x =
    one_fails {j = c.args.judge.now} (λ e. typed m e s) (λ e. good e t && good e u) (c.in_ok-whole.ensures.answer m s a x) c.if-whole.false
