use Rattle.std.proofs.Common.{◌≡◌, ◌<◌, length, take, length-take-le, sym, subst, ℕ}
use Rattle.spi_lex.specs.Front.{name_too_long, no_memory}
use Rattle.spi_lex.proofs.lexer.push_identifier.Goals as goal

pub returns-then-len-gt-NAME_BYTES-clause-err : goal.returns-then-len-gt-NAME_BYTES-clause-err
returns-then-len-gt-NAME_BYTES-clause-err c =
    let part : length (take c.args.len c.args.text.now) ≡ c.args.len = length-take-le c.args.len c.args.text.now c.requires.shape.longest.within in
    name_too_long (subst (λ (n : ℕ). 255 < n) (sym part) c.if-len-gt-NAME_BYTES.true)

pub returns-in-Err-clause-err : goal.returns-in-Err-clause-err
returns-in-Err-clause-err c = no_memory
