use Rattle.std.proofs.Common.{◌≡◌, List, length, ap, arith}
use Rattle.spi_lex.specs.declared.token.Token.{Token}
use Rattle.spi_lex.specs.Left.{left_of}
use Rattle.spi_lex.specs.Reader.{tokens_left}
use Rattle.spi_parse.proofs.Short.{left_short}
use Rattle.spi_parse.proofs.cursor.left_behind.Goals as goal

pub loop-words-init : goal.loop-words-init
loop-words-init c =
    let few = left_short (length c.args.start.rest.now) c.args.start.later c.args.start.at c.args.start.rest.now in
    let within = c.args.start.within in
    let same : length (tokens_left c.advance.new.self) ≡ length (left_of c.args.start.later c.args.start.at c.args.start.rest.now) = ap (λ (l : List Token). length l) c.advance.ensures.left in
    (omega arith, omega arith)
