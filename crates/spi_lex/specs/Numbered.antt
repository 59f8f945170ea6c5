-- Tokens by their numbers.
use Rattle.std.specs.Prelude.{◌≡◌, ℕ, Some, List, ◌∷◌, slice_get}
use Rattle.spi_lex.specs.declared.token.Token.{Token}
use Rattle.spi_lex.specs.declared.tokens.Next.{Next}
use Rattle.spi_lex.specs.declared.tokens.Rest.{Rest}
use Rattle.spi_lex.specs.declared.tokens.Rest.TheVariants as rest
use Rattle.spi_lex.specs.declared.tokens.Tokens.{Tokens}
use Rattle.spi_lex.specs.declared.tokens.Tokens.TheVariants as tokens
use Rattle.spi_lex.specs.Left.{tokens_in}
use Rattle.spi_lex.specs.Reader.{seen_kind, tokens_left}

-- all the tokens
abbrev pub listed : Tokens → List Token
listed (tokens.List list) = list.now
listed (tokens.Text text) = tokens_in text.text.now

-- those from a number on
abbrev pub rest_of : Rest → List Token
rest_of (rest.List list) = list.now
rest_of (rest.Text words) = tokens_left words

-- it is the token of this number, and that is where it stands
abbrev pub IsAt : List Token → ℕ → Next → Type 0
IsAt ts i next = (t : Token) × (slice_get ts i ≡ Some t) × (seen_kind next.kind ≡ Some t.kind)
    × (next.span ≡ t.span)

-- it is the first of the tokens
abbrev pub IsFirstOf : List Token → Next → Type 0
IsFirstOf ts next = (t : Token) × (more : List Token) × (ts ≡ t ∷ more) × (seen_kind next.kind ≡ Some t.kind)
    × (next.span ≡ t.span)
