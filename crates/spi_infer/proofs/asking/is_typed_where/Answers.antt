use Rattle.std.proofs.Common.{◌&&◌, sym, subst}
use Rattle.spi_message.specs.Tests.{typed}
use Rattle.spi_message.specs.Tested.{IsTest}
use Rattle.spi_infer.proofs.Asked.{same_holds, one_fails}
use Rattle.spi_infer.proofs.asking.is_typed_where.Goals as goal

pub returns-then-typed-clause-answer : goal.returns-then-typed-clause-answer
returns-then-typed-clause-answer c n u a w =
    same_holds {j = c.args.judge.now} (λ e. typed n e u) c.args.holds (c.in_ok-typed.ensures.answer n u a w) c.if-typed.true

pub returns-else-typed-clause-answer : goal.returns-else-typed-clause-answer
returns-else-typed-clause-answer c n u a w =
    subst (IsTest c.args.judge.now (λ e. typed n e u && c.args.holds)) (sym c.if-typed.false) (one_fails {j = c.args.judge.now} (λ e. typed n e u) (λ e. c.args.holds) (c.in_ok-typed.ensures.answer n u a w) c.if-typed.false)
