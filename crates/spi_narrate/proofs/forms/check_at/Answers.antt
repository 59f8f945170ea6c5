use Rattle.std.proofs.Common.{◌==◌, [], ◌∷◌, refl}
use Rattle.spi_lex.specs.Numbered.{listed}
use Rattle.spi_lex.specs.declared.token.Kind.TheVariants as K
use Rattle.spi_lex.specs.declared.token.Reserved.TheVariants as word
use Rattle.spi_text.specs.declared.lines.Span.{Span}
use Rattle.spi_tree.specs.Views.{msg_of}
use Rattle.spi_heading.proofs.Symbols.{message, closing, the_reserved}
use Rattle.spi_heading.proofs.RowParts.{then_part, no_part}
use Rattle.spi_heading.proofs.Reached.{ended, then_message, then_closing, no_message}
use Rattle.spi_heading.proofs.Calls.{there_within, message_within}
use Rattle.spi_heading.proofs.Nodes.{begun_node, node_fails}
use Rattle.spi_narrate.specs.Narrations as n
use Rattle.spi_narrate.specs.Grammar.{whole_prefix, IsPrefix}
use Rattle.spi_narrate.specs.Views.{prefix_of}
use Rattle.spi_narrate.proofs.FormParts.{whole_are}
use Rattle.spi_narrate.proofs.Prefixes.{check_told, check_row, check_rest, prefix_reads}
use Rattle.spi_narrate.proofs.forms.check_at.Goals as goal

pub returns-in_err-whole : goal.returns-in_err-whole
returns-in_err-whole c =
    node_fails (c.args.version == 2) whole_prefix (IsPrefix (c.args.version == 2)) prefix_of (K.Reserved word.Check) check_row (check_told (c.args.version == 2)) (listed c.args.tokens.now) c.args.at c.requires.first c.in_err-whole.field-0.0 c.from_residual.result c.from_residual.ensures.1
    (no_part (message ∷ closing ∷ []) (whole_are (c.args.version == 2)) (begun_node (c.args.version == 2) (listed c.args.tokens.now) c.args.at c.requires.text.words (the_reserved word.Check) check_rest c.requires.first) msg_of c.in_err-whole.field-0.0 c.in_err-whole.ensures.read)

pub returns-in_err-nonce : goal.returns-in_err-nonce
returns-in_err-nonce c =
    let whole = then_part (message ∷ closing ∷ []) (whole_are (c.args.version == 2)) (begun_node (c.args.version == 2) (listed c.args.tokens.now) c.args.at c.requires.text.words (the_reserved word.Check) check_rest c.requires.first) (msg_of c.in_ok-whole.whole) c.in_ok-whole.nonce_at (there_within (listed c.args.tokens.now) c.args.at (K.Reserved word.Check) c.requires.first) c.in_ok-whole.ensures.read in
    node_fails (c.args.version == 2) whole_prefix (IsPrefix (c.args.version == 2)) prefix_of (K.Reserved word.Check) check_row (check_told (c.args.version == 2)) (listed c.args.tokens.now) c.args.at c.requires.first c.in_err-nonce.field-0.0 c.from_residual-in_err-nonce.result c.from_residual-in_err-nonce.ensures.1
    (no_message whole msg_of c.in_err-nonce.field-0.0 c.in_err-nonce.ensures)

pub returns : goal.returns
returns c =
    let whole = then_part (message ∷ closing ∷ []) (whole_are (c.args.version == 2)) (begun_node (c.args.version == 2) (listed c.args.tokens.now) c.args.at c.requires.text.words (the_reserved word.Check) check_rest c.requires.first) (msg_of c.in_ok-whole.whole) c.in_ok-whole.nonce_at (there_within (listed c.args.tokens.now) c.args.at (K.Reserved word.Check) c.requires.first) c.in_ok-whole.ensures.read in
    let nonce = then_message whole (msg_of c.in_ok-nonce.nonce) c.in_ok-nonce.next c.in_ok-whole.ensures.within c.in_ok-nonce.ensures in
    prefix_reads (c.args.version == 2) (listed c.args.tokens.now) c.args.at c.requires.text.words (λ (s : Span). n.check s (msg_of c.in_ok-whole.whole) (msg_of c.in_ok-nonce.nonce)) c.span_between-span.result c.in_ok-nonce.next c.span_between-span.ensures (c.in_ok-whole.ensures.read.2.part.0, c.in_ok-nonce.ensures.2.part.0) check_row _ refl
    (ended (then_closing nonce))

pub whole_at-requires-clause-start : goal.whole_at-requires-clause-start
whole_at-requires-clause-start c = there_within (listed c.args.tokens.now) c.args.at (K.Reserved word.Check) c.requires.first

pub span_between-span-requires-clause-within : goal.span_between-span-requires-clause-within
span_between-span-requires-clause-within c = message_within (c.args.version == 2) (listed c.args.tokens.now) c.in_ok-whole.nonce_at (msg_of c.in_ok-nonce.nonce) c.in_ok-nonce.next c.in_ok-whole.ensures.within c.in_ok-nonce.ensures
