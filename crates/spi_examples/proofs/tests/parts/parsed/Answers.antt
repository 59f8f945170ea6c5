use Rattle.std.proofs.Common.{length, ap, arith}
use Rattle.spi_parse.proofs.Lexed.{kinds_fit}
use Rattle.spi_parse.proofs.Counted.{few_tokens}
use Rattle.spi_examples.proofs.tests.parts.parsed.Goals as goal

pub parse-requires-clause-size : goal.parse-requires-clause-size
parse-requires-clause-size c =
    let few = few_tokens c.in_ok-tokens.tokens.items (length c.as_bytes.result.now) c.in_ok-tokens.ensures.spans in
    let same = ap length c.as_bytes.ensures.value in
    let low = c.if-text-gt16777216.false in
    rw c.deref.ensures.value (omega arith)

pub parse-requires-clause-words : goal.parse-requires-clause-words
parse-requires-clause-words c = rw c.deref.ensures.value (kinds_fit _ c.in_ok-tokens.ensures.kinds)
