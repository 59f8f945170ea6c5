use Rattle.std.proofs.Common.{subst, sym}
use Rattle.std.specs.Str.{IsValidUpTo}
use Rattle.spi_lex.specs.Lexing.{not_utf8}
use Rattle.spi_lex.proofs.ending.text_of.Goals as goal

pub returns-in-Err-clause-err : goal.returns-in-Err-clause-err
returns-in-Err-clause-err c = not_utf8 (subst (IsValidUpTo c.args.bytes.now) (sym c.valid_up_to.ensures) c.in-Err.ensures.cases.1)
