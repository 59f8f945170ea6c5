-- Tokens as they are read.
use Rattle.std.specs.Prelude.{ℕ, Bool, false, List}
use Rattle.spi_text.specs.declared.lines.Span.{Span}
use Rattle.spi_lex.specs.declared.token.Kind.{Kind}
use Rattle.spi_lex.specs.declared.token.Token.{Token}

-- a token, and whether a node above a nesting limit starts at it, where that is known
pub record Tok : Type 0 where
  pub kind : Kind
  pub span : Span
  pub deep : Bool

-- the tokens that are left, and where the token before them ends
pub record State : Type 0 where
  pub end : ℕ
  pub rest : List Tok

abbrev pub tok : Token → Tok
tok t = record { kind = t.kind; span = t.span; deep = false }
