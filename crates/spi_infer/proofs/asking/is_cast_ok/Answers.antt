use Rattle.spi_term.specs.Term.{un}
use Rattle.spi_term.specs.View.{ty}
use Rattle.spi_term.proofs.Choices.{if_ok}
use Rattle.spi_message.specs.Tests.{typed}
use Rattle.spi_message.proofs.Tested.{type_kept}
use Rattle.spi_infer.specs.Forms.{cast_ok}
use Rattle.spi_infer.proofs.Asked.{both_hold, one_fails}
use Rattle.spi_infer.proofs.asking.is_cast_ok.Goals as goal

pub is_cast_type_ok-requires-clause-ty : goal.is_cast_type_ok-requires-clause-ty
is_cast_type_ok-requires-clause-ty c = type_kept {j = c.args.judge.now} {k = c.is_typed.new.judge} c.args.terms.ty.place (ty c.args.t.now) c.in_ok-whole.ensures.kept c.requires.ty

pub returns-then-whole-clause-answer : goal.returns-then-whole-clause-answer
returns-then-whole-clause-answer c =
    if_ok c.is_cast_type_ok.result (λ b f m a. both_hold {j = c.args.judge.now} {k = c.is_typed.new.judge} (λ e. typed m e un) (λ e. cast_ok e (ty c.args.t.now)) (c.in_ok-whole.ensures.answer m un a c.requires.un) c.if-whole.true c.in_ok-whole.ensures.kept f) c.is_cast_type_ok.ensures.answer

pub returns-else-whole-clause-answer : goal.returns-else-whole-clause-answer
returns-else-whole-clause-answer c m a =
    one_fails {j = c.args.judge.now} (λ e. typed m e un) (λ e. cast_ok e (ty c.args.t.now)) (c.in_ok-whole.ensures.answer m un a c.requires.un) c.if-whole.false
