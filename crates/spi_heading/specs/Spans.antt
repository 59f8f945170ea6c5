-- Where the parts of a text begin and end in its bytes.
use Rattle.std.specs.Prelude.{ℕ, zero, suc, List, [], ◌∷◌, drop}
use Rattle.spi_text.specs.declared.lines.Span.{Span}
use Rattle.spi_lex.specs.declared.token.Token.{Token}

abbrev pub first_from : List Token → ℕ
first_from [] = 0
first_from (t ∷ ts) = t.span.from

abbrev pub first_to : List Token → ℕ
first_to [] = 0
first_to (t ∷ ts) = t.span.to

-- the start of the token of this number
abbrev pub start_of_token : List Token → ℕ → ℕ
start_of_token ts i = first_from (drop i ts)

-- the end of the token before that of this number
abbrev pub end_before : List Token → ℕ → ℕ
end_before ts zero = 0
end_before ts (suc i) = first_to (drop i ts)

-- from the start of the token of the first number to the end of the one before that of the second
abbrev pub span_over : List Token → ℕ → ℕ → Span
span_over ts i j = record { from = start_of_token ts i; to = end_before ts j }
