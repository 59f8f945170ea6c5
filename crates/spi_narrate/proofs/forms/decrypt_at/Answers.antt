use Rattle.std.proofs.Common.{◌==◌, [], ◌∷◌, refl}
use Rattle.spi_lex.specs.Numbered.{listed}
use Rattle.spi_lex.specs.declared.token.Kind.TheVariants as K
use Rattle.spi_lex.specs.declared.token.Mark.TheVariants as mark
use Rattle.spi_lex.specs.declared.token.Reserved.TheVariants as word
use Rattle.spi_text.specs.declared.lines.Span.{Span}
use Rattle.spi_tree.specs.declared.tree.SMsg.{SMsg}
use Rattle.spi_tree.specs.Views.{msg_of, ty_of}
use Rattle.spi_heading.specs.declared.shared.Named.{Named}
use Rattle.spi_heading.specs.Views.{named_of}
use Rattle.spi_heading.proofs.Symbols.{token, message, closing, the_mark, the_reserved}
use Rattle.spi_heading.proofs.RowParts.{then_part, no_part}
use Rattle.spi_heading.proofs.Reached.{ended, then_message, then_token, then_closing, no_message, no_token}
use Rattle.spi_heading.proofs.Calls.{there_within, message_within}
use Rattle.spi_heading.proofs.Nodes.{begun_node, node_fails}
use Rattle.spi_narrate.specs.Narrations as n
use Rattle.spi_narrate.specs.Grammar.{whole_prefix, IsPrefix}
use Rattle.spi_narrate.specs.Views.{prefix_of}
use Rattle.spi_narrate.proofs.FormParts.{bound_are}
use Rattle.spi_narrate.proofs.Prefixes.{decrypt_told, decrypt_row, decrypt_rest, prefix_reads}
use Rattle.spi_narrate.proofs.forms.decrypt_at.Goals as goal

pub returns-in_err-opened : goal.returns-in_err-opened
returns-in_err-opened c =
    node_fails (c.args.version == 2) whole_prefix (IsPrefix (c.args.version == 2)) prefix_of (K.Reserved word.Decrypt) decrypt_row (decrypt_told (c.args.version == 2)) (listed c.args.tokens.now) c.args.at c.requires.first c.in_err-opened.field-0.0 c.from_residual.result c.from_residual.ensures.1
    (no_part (token (the_mark mark.BraceClose) ∷ message ∷ closing ∷ []) (bound_are (c.args.version == 2) mark.BraceOpen) (begun_node (c.args.version == 2) (listed c.args.tokens.now) c.args.at c.requires.text.words (the_reserved word.Decrypt) decrypt_rest c.requires.first) (λ (r : SMsg × Named). (msg_of r.0, named_of r.1)) c.in_err-opened.field-0.0 c.in_err-opened.ensures.read)

pub returns-in_err-key_at : goal.returns-in_err-key_at
returns-in_err-key_at c =
    let bound = then_part (token (the_mark mark.BraceClose) ∷ message ∷ closing ∷ []) (bound_are (c.args.version == 2) mark.BraceOpen) (begun_node (c.args.version == 2) (listed c.args.tokens.now) c.args.at c.requires.text.words (the_reserved word.Decrypt) decrypt_rest c.requires.first) (msg_of c.in_ok-opened.opened.0, named_of c.in_ok-opened.opened.1) c.in_ok-opened.close (there_within (listed c.args.tokens.now) c.args.at (K.Reserved word.Decrypt) c.requires.first) c.in_ok-opened.ensures.read in
    node_fails (c.args.version == 2) whole_prefix (IsPrefix (c.args.version == 2)) prefix_of (K.Reserved word.Decrypt) decrypt_row (decrypt_told (c.args.version == 2)) (listed c.args.tokens.now) c.args.at c.requires.first c.in_err-key_at.field-0.0 c.from_residual-in_err-key_at.result c.from_residual-in_err-key_at.ensures.1
    (no_token bound c.in_err-key_at.field-0.0 c.in_err-key_at.ensures.taken)

pub returns-in_err-key : goal.returns-in_err-key
returns-in_err-key c =
    let bound = then_part (token (the_mark mark.BraceClose) ∷ message ∷ closing ∷ []) (bound_are (c.args.version == 2) mark.BraceOpen) (begun_node (c.args.version == 2) (listed c.args.tokens.now) c.args.at c.requires.text.words (the_reserved word.Decrypt) decrypt_rest c.requires.first) (msg_of c.in_ok-opened.opened.0, named_of c.in_ok-opened.opened.1) c.in_ok-opened.close (there_within (listed c.args.tokens.now) c.args.at (K.Reserved word.Decrypt) c.requires.first) c.in_ok-opened.ensures.read in
    let closed = then_token bound c.in_ok-key_at.key_at c.in_ok-key_at.ensures.taken in
    node_fails (c.args.version == 2) whole_prefix (IsPrefix (c.args.version == 2)) prefix_of (K.Reserved word.Decrypt) decrypt_row (decrypt_told (c.args.version == 2)) (listed c.args.tokens.now) c.args.at c.requires.first c.in_err-key.field-0.0 c.from_residual-in_err-key.result c.from_residual-in_err-key.ensures.1
    (no_message closed msg_of c.in_err-key.field-0.0 c.in_err-key.ensures)

pub returns : goal.returns
returns c =
    let bound = then_part (token (the_mark mark.BraceClose) ∷ message ∷ closing ∷ []) (bound_are (c.args.version == 2) mark.BraceOpen) (begun_node (c.args.version == 2) (listed c.args.tokens.now) c.args.at c.requires.text.words (the_reserved word.Decrypt) decrypt_rest c.requires.first) (msg_of c.in_ok-opened.opened.0, named_of c.in_ok-opened.opened.1) c.in_ok-opened.close (there_within (listed c.args.tokens.now) c.args.at (K.Reserved word.Decrypt) c.requires.first) c.in_ok-opened.ensures.read in
    let closed = then_token bound c.in_ok-key_at.key_at c.in_ok-key_at.ensures.taken in
    let key = then_message closed (msg_of c.in_ok-key.key) c.in_ok-key.next c.in_ok-key_at.ensures.within c.in_ok-key.ensures in
    prefix_reads (c.args.version == 2) (listed c.args.tokens.now) c.args.at c.requires.text.words (λ (s : Span). n.decrypt s (msg_of c.in_ok-opened.opened.0) c.in_ok-opened.opened.1.name (ty_of c.in_ok-opened.opened.1.ty.value) (msg_of c.in_ok-key.key)) c.span_between-span.result c.in_ok-key.next c.span_between-span.ensures (c.in_ok-opened.ensures.read.2.part.0, c.in_ok-opened.ensures.read.2.part.1, c.in_ok-key.ensures.2.part.0) decrypt_row _ refl
    (ended (then_closing key))

pub bound_at-requires-clause-start : goal.bound_at-requires-clause-start
bound_at-requires-clause-start c = there_within (listed c.args.tokens.now) c.args.at (K.Reserved word.Decrypt) c.requires.first

pub span_between-span-requires-clause-within : goal.span_between-span-requires-clause-within
span_between-span-requires-clause-within c = message_within (c.args.version == 2) (listed c.args.tokens.now) c.in_ok-key_at.key_at (msg_of c.in_ok-key.key) c.in_ok-key.next c.in_ok-key_at.ensures.within c.in_ok-key.ensures
