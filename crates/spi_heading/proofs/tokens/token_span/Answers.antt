use Rattle.std.proofs.Common.{◌≡◌, ◌+◌, ℕ, zero, suc, List, [], ◌∷◌, Some, slice_get, refl, sym, ap, ◌∙◌, arith}
use Rattle.spi_lex.specs.Numbered.{listed}
use Rattle.spi_lex.specs.declared.token.Token.{Token}
use Rattle.spi_text.specs.declared.lines.Span.{Span}
use Rattle.spi_heading.specs.Spans.{span_over}
use Rattle.spi_heading.proofs.tokens.token_span.Goals as goal

span_of_one : (ts : List Token) (i : ℕ) (t : Token) → slice_get ts i ≡ Some t → t.span ≡ span_over ts i (suc i)
span_of_one [] i t e = cc
span_of_one (x ∷ xs) zero t e = (let same : x ≡ t = cc in ap (λ (y : Token). y.span) (sym same))
span_of_one (x ∷ xs) (suc i) t e = span_of_one xs i t e

pub returns : goal.returns
returns c =
    let token = c.in-Some.ensures in
    let next : suc c.args.at ≡ c.args.at + 1 = omega arith in
    token.3 ∙ span_of_one (listed c.args.tokens.now) c.args.at token.0 token.1 ∙ ap (span_over (listed c.args.tokens.now) c.args.at) next
