use Rattle.std.proofs.Common.{◌≡◌, List, Ok, Err, ap, sym, subst, ◌∙◌}
use Rattle.spi_lex.specs.declared.token.Token.{Token}
use Rattle.spi_lex.specs.Lexing.{kinds_of}
use Rattle.spi_tree.specs.Views.{file_of}
use Rattle.spi_parse.specs.declared.fault.ParseFault.{ParseFault}
use Rattle.spi_parse.specs.Exact.{IsDeepAt, Parses}
use Rattle.spi_parse.specs.Formed.{whole_file, IsFile}
use Rattle.spi_parse.proofs.Lexed.{kinds_fit}
use Rattle.spi_parse.proofs.OneTree.{kinds_spelled}
use Rattle.spi_parts.proofs.Answers.{no_syntax, not_both}
use Rattle.spi_expected.proofs.text.expected_of.Goals as goal

pub parse-requires-clause-words : goal.parse-requires-clause-words
parse-requires-clause-words c = rw c.deref.ensures.value (kinds_fit _ c.in-Ok.ensures.kinds)

pub expected-requires-clause-words : goal.expected-requires-clause-words
expected-requires-clause-words c = rw c.deref-in-Err-Syntax.ensures.value (kinds_fit _ c.in-Ok.ensures.kinds)

pub returns-in-Ok-parse-clause-none : goal.returns-in-Ok-parse-clause-none
returns-in-Ok-parse-clause-none c tokens at lexes few syntax =
    let same : tokens ≡ c.in-Ok.tokens.items = (let e = c.in-Ok.ensures.only (Ok tokens) lexes in cc) in
    let f = file_of c.in-Ok-parse.field-0 in
    let parsed = c.in-Ok-parse.ensures in
    no_syntax whole_file IsFile f parsed.0 (kinds_of tokens)
    (kinds_spelled 0 (whole_file f) c.deref.result.now parsed.1 ∙ ap kinds_of (c.deref.ensures.value ∙ sym same)) at syntax

pub returns-in-Err-TooDeep-clause-none : goal.returns-in-Err-TooDeep-clause-none
returns-in-Err-TooDeep-clause-none c tokens at lexes few syntax =
    let same : tokens ≡ c.in-Ok.tokens.items = (let e = c.in-Ok.ensures.only (Ok tokens) lexes in cc) in
    not_both whole_file IsFile (kinds_of tokens) at c.in-Err-TooDeep.field-0-0 syntax
    (subst (λ (ts : List Token). IsDeepAt whole_file IsFile (kinds_of ts) c.in-Err-TooDeep.field-0-0)
    (c.deref.ensures.value ∙ sym same)
    (subst (λ (e : ParseFault). Parses file_of (Err e) c.deref.result.now) c.in-Err-TooDeep.field-0-is c.in-Err-TooDeep.ensures))
