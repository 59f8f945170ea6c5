use Rattle.std.proofs.Common.{List, ℕ, refl, subst, sym}
use Rattle.spi_lex.specs.Front.{FailsPart, IsShape}
use Rattle.spi_lex.specs.declared.scan.Shape.TheVariants as shapes
use Rattle.spi_lex.specs.declared.fault.LexFault.TheVariants as faults
use Rattle.spi_lex.proofs.Numerals.{number_fails}
use Rattle.spi_lex.proofs.lexer.push_number.Goals as goal

pub returns-in-Err-clause-err : goal.returns-in-Err-clause-err
returns-in-Err-clause-err c =
    let part = c.split_at.ensures.front in
    subst (λ (bytes : List ℕ). FailsPart shapes.Number bytes c.args.at (faults.BadNumber c.args.at)) part
    (number_fails shapes.Number _ c.args.at _ _ refl (subst (IsShape shapes.Number) (sym part) c.requires.shape.is_shape) c.parse.ensures.value.0 c.in-Err.is)
