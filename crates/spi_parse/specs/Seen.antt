-- Tokens as they are seen.
use Rattle.std.specs.Prelude.{false}
use Rattle.spi_lex.specs.declared.token.Kind.{Kind}
use Rattle.spi_lex.specs.declared.token.Kind.TheVariants as K
use Rattle.spi_parse.specs.declared.seen.Seen.{Seen}
use Rattle.spi_parse.specs.declared.seen.Seen.TheVariants as seen
use Rattle.spi_parse.specs.declared.seen.Lexeme.{Lexeme}
use Rattle.spi_parse.specs.Tokens.{Tok}

abbrev pub kind_of : Seen → Kind
kind_of (seen.Word word) = K.Word word.now
kind_of (seen.Reserved word) = K.Reserved word
kind_of (seen.Number number) = K.Number number
kind_of (seen.Mark mark) = K.Mark mark

abbrev pub tok_of : Lexeme → Tok
tok_of l = record { kind = kind_of l.kind; span = l.span; deep = false }
