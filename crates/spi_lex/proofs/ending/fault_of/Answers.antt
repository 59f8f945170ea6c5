use Rattle.std.proofs.Common.{◌≡◌, ◌<◌, List, ℕ, length, take, length-take-le, sym, subst}
use Rattle.spi_lex.specs.declared.scan.Shape.{Shape}
use Rattle.spi_lex.specs.declared.fault.LexFault.TheVariants as faults
use Rattle.spi_lex.specs.Front.{FailsPart, IsShape, name_too_long}
use Rattle.spi_lex.proofs.Numerals.{number_fails}
use Rattle.spi_lex.proofs.ending.fault_of.Goals as goal

pub returns-then-len-gt-NAME_BYTES : goal.returns-then-len-gt-NAME_BYTES
returns-then-len-gt-NAME_BYTES c =
    let bytes = take c.args.len c.args.text.now in
    let part : length bytes ≡ c.args.len = length-take-le c.args.len c.args.text.now c.requires.longest.within in (
      λ e. cc,
      subst (λ (shape : Shape). FailsPart shape bytes c.args.at (faults.NameTooLong c.args.at)) (sym c.in-Identifier.is)
          (name_too_long (subst (λ (n : ℕ). 255 < n) (sym part) c.if-len-gt-NAME_BYTES.true)),
    )

pub returns-in-Err : goal.returns-in-Err
returns-in-Err c =
    let part = c.split_at.ensures.front in (
      λ e. cc,
      subst (λ (bytes : List ℕ). FailsPart c.args.shape bytes c.args.at (faults.BadNumber c.args.at)) part
          (number_fails c.args.shape _ c.args.at _ _ c.in-Number.is (subst (IsShape c.args.shape) (sym part) c.requires.is_shape) c.parse.ensures.value.0 c.in-Err.is),
    )
