use Rattle.std.proofs.Common.{◌≡◌, ℕ, [], ◌∷◌, drop, ◌==◌, ◌+◌, subst, sym}
use Rattle.spi_lex.specs.Numbered.{listed}
use Rattle.spi_lex.specs.declared.token.Mark.TheVariants as mark
use Rattle.spi_tree.specs.declared.tree.SMsg.{SMsg}
use Rattle.spi_tree.specs.declared.tree.SWord.{SWord}
use Rattle.spi_tree.specs.Views.{msg_of}
use Rattle.spi_heading.specs.Spans.{start_of_token, end_before}
use Rattle.spi_heading.proofs.Symbols.{token, name, closing, the_mark, the_word, as_}
use Rattle.spi_heading.proofs.RowParts.{then_part, no_part}
use Rattle.spi_heading.proofs.Reached.{begun, ended, then_token, then_word, then_closing, no_token, no_word}
use Rattle.spi_text.specs.declared.lines.Span.{Span}
use Rattle.spi_parse.specs.Exact as exact
use Rattle.spi_narrate.specs.Narrations as n
use Rattle.spi_narrate.specs.Grammar.{whole_line, IsWholeLine}
use Rattle.spi_narrate.specs.Views.{line_of}
use Rattle.spi_narrate.proofs.LineRows.{pass_row, addressed_are, head_at, pass_fails, pass_reads, line_answer, no_pass}
use Rattle.spi_narrate.proofs.lines.pass_at.Goals as goal

pub returns-in_err-receiver : goal.returns-in_err-receiver
returns-in_err-receiver c =
    line_answer (c.args.version == 2) (listed c.args.tokens.now) line_of c.args.at c.in_err-receiver.field-0.0 c.from_residual.result c.from_residual.ensures.1
    (no_pass (c.args.version == 2) (listed c.args.tokens.now) c.args.at c.args.behind (start_of_token (listed c.args.tokens.now) c.args.at) c.args.from c.requires.text.words (head_at (c.args.version == 2) (listed c.args.tokens.now) c.args.at c.args.behind c.args.from c.requires.first) c.requires.other c.in_err-receiver.field-0.0 c.in_err-receiver.ensures.taken)

pub returns-in_err-addressed : goal.returns-in_err-addressed
returns-in_err-addressed c =
    let to = then_token (begun (c.args.version == 2) (listed c.args.tokens.now) c.args.behind pass_row c.requires.text.words) c.in_ok-receiver.receiver c.in_ok-receiver.ensures.taken in
    line_answer (c.args.version == 2) (listed c.args.tokens.now) line_of c.args.at c.in_err-addressed.field-0.0 c.from_residual-in_err-addressed.result c.from_residual-in_err-addressed.ensures.1
    (pass_fails (c.args.version == 2) (listed c.args.tokens.now) c.args.at c.requires.text.words c.args.behind (start_of_token (listed c.args.tokens.now) c.args.at) c.args.from (head_at (c.args.version == 2) (listed c.args.tokens.now) c.args.at c.args.behind c.args.from c.requires.first) c.in_ok-receiver.ensures.taken.0 c.in_err-addressed.field-0.0 (no_part (token (the_word as_) ∷ name ∷ token (the_mark mark.Semicolon) ∷ closing ∷ []) (addressed_are (c.args.version == 2)) to (λ (r : SWord × SWord × SMsg). (r.0, r.1, msg_of r.2)) c.in_err-addressed.field-0.0 c.in_err-addressed.ensures.read))

pub returns-in_err-name_at : goal.returns-in_err-name_at
returns-in_err-name_at c =
    let to = then_token (begun (c.args.version == 2) (listed c.args.tokens.now) c.args.behind pass_row c.requires.text.words) c.in_ok-receiver.receiver c.in_ok-receiver.ensures.taken in
    let addressed = then_part (token (the_word as_) ∷ name ∷ token (the_mark mark.Semicolon) ∷ closing ∷ []) (addressed_are (c.args.version == 2)) to (c.in_ok-addressed.addressed.0, c.in_ok-addressed.addressed.1, msg_of c.in_ok-addressed.addressed.2) c.in_ok-addressed.as_at c.in_ok-receiver.ensures.within c.in_ok-addressed.ensures.read in
    line_answer (c.args.version == 2) (listed c.args.tokens.now) line_of c.args.at c.in_err-name_at.field-0.0 c.from_residual-in_err-name_at.result c.from_residual-in_err-name_at.ensures.1
    (pass_fails (c.args.version == 2) (listed c.args.tokens.now) c.args.at c.requires.text.words c.args.behind (start_of_token (listed c.args.tokens.now) c.args.at) c.args.from (head_at (c.args.version == 2) (listed c.args.tokens.now) c.args.at c.args.behind c.args.from c.requires.first) c.in_ok-receiver.ensures.taken.0 c.in_err-name_at.field-0.0 (no_token addressed c.in_err-name_at.field-0.0 c.in_err-name_at.ensures.taken))

pub returns-in_err-name : goal.returns-in_err-name
returns-in_err-name c =
    let to = then_token (begun (c.args.version == 2) (listed c.args.tokens.now) c.args.behind pass_row c.requires.text.words) c.in_ok-receiver.receiver c.in_ok-receiver.ensures.taken in
    let addressed = then_part (token (the_word as_) ∷ name ∷ token (the_mark mark.Semicolon) ∷ closing ∷ []) (addressed_are (c.args.version == 2)) to (c.in_ok-addressed.addressed.0, c.in_ok-addressed.addressed.1, msg_of c.in_ok-addressed.addressed.2) c.in_ok-addressed.as_at c.in_ok-receiver.ensures.within c.in_ok-addressed.ensures.read in
    line_answer (c.args.version == 2) (listed c.args.tokens.now) line_of c.args.at c.in_err-name.field-0.0 c.from_residual-in_err-name.result c.from_residual-in_err-name.ensures.1
    (pass_fails (c.args.version == 2) (listed c.args.tokens.now) c.args.at c.requires.text.words c.args.behind (start_of_token (listed c.args.tokens.now) c.args.at) c.args.from (head_at (c.args.version == 2) (listed c.args.tokens.now) c.args.at c.args.behind c.args.from c.requires.first) c.in_ok-receiver.ensures.taken.0 c.in_err-name.field-0.0 (no_word (then_token addressed c.in_ok-name_at.name_at c.in_ok-name_at.ensures.taken) c.in_err-name.field-0.0 c.in_err-name.ensures.taken))

pub returns-in_err-next : goal.returns-in_err-next
returns-in_err-next c =
    let to = then_token (begun (c.args.version == 2) (listed c.args.tokens.now) c.args.behind pass_row c.requires.text.words) c.in_ok-receiver.receiver c.in_ok-receiver.ensures.taken in
    let addressed = then_part (token (the_word as_) ∷ name ∷ token (the_mark mark.Semicolon) ∷ closing ∷ []) (addressed_are (c.args.version == 2)) to (c.in_ok-addressed.addressed.0, c.in_ok-addressed.addressed.1, msg_of c.in_ok-addressed.addressed.2) c.in_ok-addressed.as_at c.in_ok-receiver.ensures.within c.in_ok-addressed.ensures.read in
    let named = then_word (then_token addressed c.in_ok-name_at.name_at c.in_ok-name_at.ensures.taken) c.in_ok-name.name c.in_ok-name.end c.in_ok-name.ensures.taken in
    line_answer (c.args.version == 2) (listed c.args.tokens.now) line_of c.args.at c.in_err-next.field-0.0 c.from_residual-in_err-next.result c.from_residual-in_err-next.ensures.1
    (pass_fails (c.args.version == 2) (listed c.args.tokens.now) c.args.at c.requires.text.words c.args.behind (start_of_token (listed c.args.tokens.now) c.args.at) c.args.from (head_at (c.args.version == 2) (listed c.args.tokens.now) c.args.at c.args.behind c.args.from c.requires.first) c.in_ok-receiver.ensures.taken.0 c.in_err-next.field-0.0 (no_token named c.in_err-next.field-0.0 c.in_err-next.ensures.taken))

pub returns : goal.returns
returns c =
    let to = then_token (begun (c.args.version == 2) (listed c.args.tokens.now) c.args.behind pass_row c.requires.text.words) c.in_ok-receiver.receiver c.in_ok-receiver.ensures.taken in
    let addressed = then_part (token (the_word as_) ∷ name ∷ token (the_mark mark.Semicolon) ∷ closing ∷ []) (addressed_are (c.args.version == 2)) to (c.in_ok-addressed.addressed.0, c.in_ok-addressed.addressed.1, msg_of c.in_ok-addressed.addressed.2) c.in_ok-addressed.as_at c.in_ok-receiver.ensures.within c.in_ok-addressed.ensures.read in
    let named = then_word (then_token addressed c.in_ok-name_at.name_at c.in_ok-name_at.ensures.taken) c.in_ok-name.name c.in_ok-name.end c.in_ok-name.ensures.taken in
    let next = c.in_ok-next.next in
    let sent = c.in_ok-addressed.addressed in
    subst (λ (s : Span). (k : ℕ) × (next ≡ c.args.at + k) × exact.IsPartAt whole_line (IsWholeLine (c.args.version == 2)) (n.pass s c.args.from sent.0 sent.1 (msg_of sent.2) c.in_ok-name.name) (drop c.args.at (listed c.args.tokens.now)) k) (sym c.span_between-span.ensures)
    (pass_reads (c.args.version == 2) (listed c.args.tokens.now) c.args.at c.requires.text.words c.args.behind (start_of_token (listed c.args.tokens.now) c.args.at) c.args.from (head_at (c.args.version == 2) (listed c.args.tokens.now) c.args.at c.args.behind c.args.from c.requires.first) sent.0 sent.1 (msg_of sent.2) c.in_ok-name.name (end_before (listed c.args.tokens.now) next) next (ended (then_closing (then_token named next c.in_ok-next.ensures.taken))))
