-- Where a bench lies in its bytes. No public clause names it.
use Rattle.std.specs.Prelude.{List, [], ◌∷◌, length}
use Rattle.spi_text.specs.declared.lines.Span.{Span}
use Rattle.spi_lex.specs.declared.token.Token.{Token}
use Rattle.spi_heading.specs.Spans.{span_over}
use Rattle.spi_tree.specs.Trees.{nowhere}

-- from the first of these tokens to the last, where there are any
abbrev pub span_of_all : List Token → Span
span_of_all [] = nowhere
span_of_all (t ∷ ts) = span_over (t ∷ ts) 0 (length (t ∷ ts))
