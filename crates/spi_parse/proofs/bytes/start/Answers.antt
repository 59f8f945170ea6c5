use Rattle.std.proofs.Common.{◌≡◌, ◌-◌, ◌<◌, ℕ, zero, suc, List, drop, refl, ap, ◌∙◌, arith}
use Rattle.spi_text.specs.declared.lines.Span.{Span}
use Rattle.spi_lex.specs.declared.token.Token.{Token}
use Rattle.spi_lex.specs.declared.reader.Seen.{Seen}
use Rattle.spi_lex.specs.declared.reader.Seen.TheVariants as seen
use Rattle.spi_lex.specs.Reader.{seen_kind, tokens_from, tokens_behind}
use Rattle.spi_parse.proofs.bytes.start.Goals as goal

one_less : (n : ℕ) (behind : List Token) → drop (suc n - 1) behind ≡ drop n behind
one_less n behind = ap (λ (i : ℕ). drop i behind) (let same : suc n - 1 ≡ n = omega arith in same)

-- one token less is ahead, where one stands next
ahead_of : (kind : Seen) (span : Span) (behind : List Token) (ahead : ℕ) → (kind ≡ seen.Nothing → ⊥) → 0 < ahead → drop (ahead - 1) behind ≡ drop ahead (tokens_from (seen_kind kind) span behind)
ahead_of kind span behind zero some more = absurd (omega (arith, more))
ahead_of seen.Nothing span behind (suc n) some more = absurd (some refl)
ahead_of (seen.Word word) span behind (suc n) some more = one_less n behind
ahead_of (seen.Reserved word) span behind (suc n) some more = one_less n behind
ahead_of (seen.Number value) span behind (suc n) some more = one_less n behind
ahead_of (seen.Mark m) span behind (suc n) some more = one_less n behind

pub loop-words-preserved : goal.loop-words-preserved
loop-words-preserved c =
    let words = c.loop-words.words in
    let more : 0 < c.loop-words.ahead = omega (arith, c.if-ahead-eq0.false) in
    ap (λ (ts : List Token). drop (c.loop-words.ahead - 1) ts) c.advance.ensures.left
    ∙ ahead_of words.kind (record { from = words.from; to = words.to }) (tokens_behind words) c.loop-words.ahead c.in_default.not-Nothing more
    ∙ c.loop-words.invariant
