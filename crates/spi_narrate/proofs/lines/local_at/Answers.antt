use Rattle.std.proofs.Common.{◌≡◌, ◌==◌, ◌+◌, ℕ, drop, sym, subst}
use Rattle.spi_lex.specs.Numbered.{listed}
use Rattle.spi_lex.specs.declared.token.Kind.TheVariants as K
use Rattle.spi_lex.specs.declared.token.Mark.TheVariants as mark
use Rattle.spi_text.specs.declared.lines.Span.{Span}
use Rattle.spi_parse.specs.Exact as exact
use Rattle.spi_heading.specs.Spans.{start_of_token, end_before}
use Rattle.spi_heading.proofs.Failing.{fails_from}
use Rattle.spi_heading.proofs.Symbols.{token, the_mark}
use Rattle.spi_heading.proofs.Rows.{fails_first}
use Rattle.spi_heading.proofs.Calls.{untaken, there_within}
use Rattle.spi_narrate.specs.Narrations as n
use Rattle.spi_narrate.specs.Grammar.{whole_prefix, IsWholePrefix, whole_line, IsWholeLine}
use Rattle.spi_narrate.specs.Views.{prefix_of, line_of}
use Rattle.spi_narrate.proofs.Prefixes.{prefix_stands}
use Rattle.spi_narrate.proofs.LineRows.{head_at, colon_at, tail_at, prefix_fails, end_fails, local_reads, line_answer}
use Rattle.spi_narrate.proofs.lines.local_at.Goals as goal

pub returns-in_err-prefix : goal.returns-in_err-prefix
returns-in_err-prefix c =
    line_answer (c.args.version == 2) (listed c.args.tokens.now) line_of c.args.at c.in_err-prefix.field-0.0 c.from_residual.result c.from_residual.ensures.1
    (prefix_fails (c.args.version == 2) (listed c.args.tokens.now) c.args.at c.requires.text.words c.args.colon (start_of_token (listed c.args.tokens.now) c.args.at) c.args.role (head_at (c.args.version == 2) (listed c.args.tokens.now) c.args.at c.args.colon c.args.role c.requires.first) (c.args.colon + 1) c.requires.colon (colon_at (c.args.version == 2) (listed c.args.tokens.now) c.args.colon c.requires.colon)
    c.in_err-prefix.field-0.0 (fails_from prefix_of whole_prefix (IsWholePrefix (c.args.version == 2)) (listed c.args.tokens.now) (c.args.colon + 1) c.in_err-prefix.field-0.0 c.in_err-prefix.ensures))

pub returns-in_err-next : goal.returns-in_err-next
returns-in_err-next c =
    let x = prefix_of c.in_ok-prefix.prefix in
    let end = c.in_ok-prefix.end in
    line_answer (c.args.version == 2) (listed c.args.tokens.now) line_of c.args.at c.in_err-next.field-0.0 c.from_residual-in_err-next.result c.from_residual-in_err-next.ensures.1
    (end_fails (c.args.version == 2) (listed c.args.tokens.now) c.args.at c.requires.text.words c.args.colon (start_of_token (listed c.args.tokens.now) c.args.at) c.args.role (head_at (c.args.version == 2) (listed c.args.tokens.now) c.args.at c.args.colon c.args.role c.requires.first) (c.args.colon + 1) c.requires.colon (colon_at (c.args.version == 2) (listed c.args.tokens.now) c.args.colon c.requires.colon)
    end x c.in_ok-prefix.ensures.2.part.0 (prefix_stands (c.args.version == 2) (listed c.args.tokens.now) (c.args.colon + 1) x end (there_within (listed c.args.tokens.now) c.args.colon (K.Mark mark.Colon) c.requires.colon) c.in_ok-prefix.ensures)
    c.in_err-next.field-0.0 (fails_first (c.args.version == 2) (listed c.args.tokens.now) end (token (the_mark mark.Semicolon)) _ c.in_err-next.field-0.0 (untaken (c.args.version == 2) (listed c.args.tokens.now) end (the_mark mark.Semicolon) c.in_err-next.field-0.0 c.in_err-next.ensures.taken)))

pub returns : goal.returns
returns c =
    let v = c.args.version == 2 in
    let ts = (listed c.args.tokens.now) in
    let x = prefix_of c.in_ok-prefix.prefix in
    let next = c.in_ok-next.next in
    subst (λ (s : Span). (k : ℕ) × (next ≡ c.args.at + k) × exact.IsPartAt whole_line (IsWholeLine v) (n.local s c.args.role x) (drop c.args.at ts) k) (sym c.span_between-span.ensures)
    (local_reads v ts c.args.at c.requires.text.words c.args.colon (start_of_token ts c.args.at) c.args.role (head_at v ts c.args.at c.args.colon c.args.role c.requires.first) (c.args.colon + 1) c.requires.colon (colon_at v ts c.args.colon c.requires.colon)
    c.in_ok-prefix.end x c.in_ok-prefix.ensures.2.part.0 (prefix_stands v ts (c.args.colon + 1) x c.in_ok-prefix.end (there_within ts c.args.colon (K.Mark mark.Colon) c.requires.colon) c.in_ok-prefix.ensures)
    next (end_before ts next) (tail_at v ts c.in_ok-prefix.end next c.in_ok-next.ensures.taken))
