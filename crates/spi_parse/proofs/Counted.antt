-- There are at most as many tokens as bytes.
use Rattle.std.proofs.Common.{ℕ, ◌+◌, ◌≤◌, List, [], ◌∷◌, length, arith}
use Rattle.std.proofs.lemmas.List.{length-map}
use Rattle.spi_text.specs.declared.lines.Span.{Span}
use Rattle.spi_lex.specs.declared.token.Token.{Token}
use Rattle.spi_lex.specs.Writing.{AreSpans, spans_of}

spans_fit : (at : ℕ) (spans : List Span) (end : ℕ) → AreSpans at spans end → at + length spans ≤ end
spans_fit at [] end h = let k : at ≤ end = h in omega arith
spans_fit at (span ∷ spans) end h =
    let begun = h.0 in
    let some = h.1 in
    let rest = spans_fit span.to spans end h.2 in
    omega arith

pub few_tokens : (tokens : List Token) (end : ℕ) → AreSpans 0 (spans_of tokens) end → length tokens ≤ end
few_tokens tokens end h =
    let fit = spans_fit 0 (spans_of tokens) end h in
    let same = length-map tokens (λ (token : Token). token.span) in
    omega arith
