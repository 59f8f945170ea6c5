-- What a reader has still to give.
use Rattle.std.specs.Prelude.{Bool, false, Option, Some, None, List, [], ◌∷◌}
use Rattle.spi_text.specs.declared.lines.Span.{Span}
use Rattle.spi_lex.specs.declared.token.Token.{Token}
use Rattle.spi_lex.specs.declared.token.Kind.{Kind}
use Rattle.spi_lex.specs.declared.token.Kind.TheVariants as kinds
use Rattle.spi_lex.specs.declared.reader.Seen.{Seen}
use Rattle.spi_lex.specs.declared.reader.Seen.TheVariants as seen
use Rattle.spi_lex.specs.declared.reader.Words.{Words}
use Rattle.spi_lex.specs.Left.{left_of}

-- the kind of the token that stands next
abbrev pub seen_kind : Seen → Option Kind
seen_kind seen.Nothing = None
seen_kind (seen.Word word) = Some (kinds.Word word.now)
seen_kind (seen.Reserved word) = Some (kinds.Reserved word)
seen_kind (seen.Number value) = Some (kinds.Number value)
seen_kind (seen.Mark m) = Some (kinds.Mark m)

-- the token of this kind and those behind it, and none of nothing
abbrev pub tokens_from : Option Kind → Span → List Token → List Token
tokens_from None span behind = []
tokens_from (Some kind) span behind = record { kind = kind; span = span } ∷ behind

-- the tokens behind the one that stands next
abbrev pub tokens_behind : Words → List Token
tokens_behind words = left_of words.later words.at words.rest.now

-- the tokens that are still to come, the one that stands next first
abbrev pub tokens_left : Words → List Token
tokens_left words =
    tokens_from (seen_kind words.kind) (record { from = words.from; to = words.to }) (tokens_behind words)

-- whether the token that stands next is such a one
abbrev pub is_next : (Kind → Bool) → Option Kind → Bool
is_next p None = false
is_next p (Some kind) = p kind
