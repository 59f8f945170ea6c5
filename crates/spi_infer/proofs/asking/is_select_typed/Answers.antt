use Rattle.std.proofs.Common.{◌&&◌}
use Rattle.spi_term.proofs.Choices.{if_ok}
use Rattle.spi_message.specs.Tests.{typed, good}
use Rattle.spi_message.proofs.Tested.{message_kept, type_kept}
use Rattle.spi_infer.proofs.Asked.{message_later, type_later, small_later, both_hold, one_fails}
use Rattle.spi_infer.proofs.asking.is_select_typed.Goals as goal

pub is_typed_over_good-requires-clause-message : goal.is_typed_over_good-requires-clause-message
is_typed_over_good-requires-clause-message c = message_later {j = c.args.judge.now} {k = c.is_typed.new.judge} c.args.terms.other c.in_ok-whole.ensures.kept c.requires.other

pub is_typed_over_good-requires-clause-ty : goal.is_typed_over_good-requires-clause-ty
is_typed_over_good-requires-clause-ty c = type_later {j = c.args.judge.now} {k = c.is_typed.new.judge} c.in_ok-whole.ensures.kept c.requires.ty

pub is_typed_over_good-requires-clause-over : goal.is_typed_over_good-requires-clause-over
is_typed_over_good-requires-clause-over c = small_later {j = c.args.judge.now} {k = c.is_typed.new.judge} c.in_ok-whole.ensures.kept c.requires.both

pub returns-then-whole-clause-answer : goal.returns-then-whole-clause-answer
returns-then-whole-clause-answer c =
    let k = c.in_ok-whole.ensures.kept in
    if_ok c.is_typed_over_good.result (λ b f m n t p a d v w. both_hold {j = c.args.judge.now} {k = c.is_typed.new.judge} (λ e. typed m e p) (λ e. typed n e t && good e p) (c.in_ok-whole.ensures.answer m p a w) c.if-whole.true k (f n t p (message_kept {j = c.args.judge.now} {k = c.is_typed.new.judge} c.args.terms.other.place n k d) (type_kept {j = c.args.judge.now} {k = c.is_typed.new.judge} c.args.terms.ty.place t k v) (type_kept {j = c.args.judge.now} {k = c.is_typed.new.judge} c.args.both.place p k w))) c.is_typed_over_good.ensures.answer

pub returns-else-whole-clause-answer : goal.returns-else-whole-clause-answer
returns-else-whole-clause-answer c m n t p a d v w =
    one_fails {j = c.args.judge.now} (λ e. typed m e p) (λ e. typed n e t && good e p) (c.in_ok-whole.ensures.answer m p a w) c.if-whole.false
