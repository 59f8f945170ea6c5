use Rattle.std.proofs.Common.{◌≡◌, ℕ, List, [], ◌∷◌, ◌++◌, drop, ◌==◌, ◌+◌, subst, sym}
use Rattle.spi_lex.specs.Numbered.{listed}
use Rattle.spi_lex.specs.declared.token.Mark.TheVariants as mark
use Rattle.spi_tree.specs.Views.{ty_of}
use Rattle.spi_heading.specs.Views.{named_of}
use Rattle.spi_heading.proofs.Symbols.{HeadingSym, token, closing, the_mark, the_word, shared}
use Rattle.spi_heading.proofs.Rows.{fails_opening}
use Rattle.spi_heading.proofs.Calls.{took_before}
use Rattle.spi_heading.proofs.RowParts.{part_fails, part_reads, then_part, no_part}
use Rattle.spi_heading.proofs.Reached.{begun, ended, then_opening, then_token, then_closing, no_token}
use Rattle.spi_heading.proofs.Names.{named_row, shared_row, shared_are, named_are}
use Rattle.spi_text.specs.declared.lines.Span.{Span}
use Rattle.spi_parse.specs.Exact as exact
use Rattle.spi_heading.specs.Grammar.{whole_shared, IsWholeShared}
use Rattle.spi_heading.specs.Spans.{span_over}
use Rattle.spi_heading.specs.Views.{shared_of}
use Rattle.spi_heading.proofs.shared.shared_at.Goals as goal

abbrev last_row : List HeadingSym
last_row = token (the_mark mark.Semicolon) ∷ closing ∷ []

pub returns-in_err-name_at-clause-read : goal.returns-in_err-name_at-clause-read
returns-in_err-name_at-clause-read c =
    part_fails (shared_are (c.args.version == 2)) (listed c.args.tokens.now) c.args.at shared_of c.in_err-name_at.field-0.0 c.from_residual.result c.from_residual.ensures.1
    (fails_opening (c.args.version == 2) (listed c.args.tokens.now) c.args.at _ c.in_err-name_at.field-0.0 (no_token (begun (c.args.version == 2) (listed c.args.tokens.now) c.args.at (token (the_word shared) ∷ (named_row ++ last_row)) c.requires.text.words) c.in_err-name_at.field-0.0 c.in_err-name_at.ensures.taken))

pub returns-in_err-named-clause-read : goal.returns-in_err-named-clause-read
returns-in_err-named-clause-read c =
    let first = then_opening (begun (c.args.version == 2) (listed c.args.tokens.now) c.args.at shared_row c.requires.text.words) (took_before (listed c.args.tokens.now) c.args.at c.in_ok-name_at.name_at (the_word shared) c.in_ok-name_at.ensures.taken) in
    part_fails (shared_are (c.args.version == 2)) (listed c.args.tokens.now) c.args.at shared_of c.in_err-named.field-0.0 c.from_residual-in_err-named.result c.from_residual-in_err-named.ensures.1
    (no_part last_row (named_are (c.args.version == 2)) (then_token first c.in_ok-name_at.name_at c.in_ok-name_at.ensures.taken) named_of c.in_err-named.field-0.0 c.in_err-named.ensures.read)

pub returns-in_err-next-clause-read : goal.returns-in_err-next-clause-read
returns-in_err-next-clause-read c =
    let first = then_opening (begun (c.args.version == 2) (listed c.args.tokens.now) c.args.at shared_row c.requires.text.words) (took_before (listed c.args.tokens.now) c.args.at c.in_ok-name_at.name_at (the_word shared) c.in_ok-name_at.ensures.taken) in
    let named = then_part last_row (named_are (c.args.version == 2)) (then_token first c.in_ok-name_at.name_at c.in_ok-name_at.ensures.taken) (named_of c.in_ok-named.named) c.in_ok-named.end c.in_ok-name_at.ensures.within c.in_ok-named.ensures.read in
    part_fails (shared_are (c.args.version == 2)) (listed c.args.tokens.now) c.args.at shared_of c.in_err-next.field-0.0 c.from_residual-in_err-next.result c.from_residual-in_err-next.ensures.1
    (no_token named c.in_err-next.field-0.0 c.in_err-next.ensures.taken)

pub returns-clause-read : goal.returns-clause-read
returns-clause-read c =
    let next = c.in_ok-next.next in
    let first = then_opening (begun (c.args.version == 2) (listed c.args.tokens.now) c.args.at shared_row c.requires.text.words) (took_before (listed c.args.tokens.now) c.args.at c.in_ok-name_at.name_at (the_word shared) c.in_ok-name_at.ensures.taken) in
    let named = then_part last_row (named_are (c.args.version == 2)) (then_token first c.in_ok-name_at.name_at c.in_ok-name_at.ensures.taken) (named_of c.in_ok-named.named) c.in_ok-named.end c.in_ok-name_at.ensures.within c.in_ok-named.ensures.read in
    rw c.into_inner.ensures (subst (λ (s : Span). (n : ℕ) × (next ≡ c.args.at + n) × exact.IsPartAt whole_shared (IsWholeShared (c.args.version == 2)) (record { span = s; name = c.in_ok-named.named.name; ty = ty_of c.in_ok-named.named.ty.value }) (drop c.args.at (listed c.args.tokens.now)) n) (sym c.span_between-span.ensures)
    (part_reads (shared_are (c.args.version == 2)) (listed c.args.tokens.now) c.args.at c.requires.text.words (record { span = span_over (listed c.args.tokens.now) c.args.at next; name = c.in_ok-named.named.name; ty = ty_of c.in_ok-named.named.ty.value }) next (ended (then_closing (then_token named next c.in_ok-next.ensures.taken)))))
