use Rattle.std.proofs.Common.{subst, ◌==◌, ◌+◌, refl}
use Rattle.spi_lex.specs.Numbered.{listed}
use Rattle.spi_lex.specs.declared.token.Kind.TheVariants as K
use Rattle.spi_lex.specs.declared.token.Reserved.TheVariants as word
use Rattle.spi_lex.specs.declared.token.Reserved.{Reserved}
use Rattle.spi_heading.specs.Taking.{IsThere}
use Rattle.spi_text.specs.declared.lines.Span.{Span}
use Rattle.spi_tree.specs.Views.{msg_of}
use Rattle.spi_heading.proofs.Symbols.{the_reserved}
use Rattle.spi_heading.proofs.Reached.{no_message}
use Rattle.spi_heading.proofs.Calls.{there_within, message_within}
use Rattle.spi_heading.proofs.Nodes.{begun_node, node_fails}
use Rattle.spi_narrate.specs.Narrations as n
use Rattle.spi_narrate.specs.Grammar.{whole_prefix, IsPrefix}
use Rattle.spi_narrate.specs.Views.{prefix_of}
use Rattle.spi_narrate.proofs.Prefixes.{label_told, label_row, label_rest, last_label, label_reads}
use Rattle.spi_narrate.proofs.forms.label_at.Goals as goal

pub returns-in_err-label : goal.returns-in_err-label
returns-in_err-label c =
    node_fails (c.args.version == 2) whole_prefix (IsPrefix (c.args.version == 2)) prefix_of (K.Reserved c.args.form) (label_row c.args.form) (label_told (c.args.version == 2) c.args.form c.requires.form) (listed c.args.tokens.now) c.args.at c.requires.first c.in_err-label.field-0.0 c.from_residual.result c.from_residual.ensures.1
    (no_message (begun_node (c.args.version == 2) (listed c.args.tokens.now) c.args.at c.requires.text.words (the_reserved c.args.form) label_rest c.requires.first) msg_of c.in_err-label.field-0.0 c.in_err-label.ensures)

pub returns-in-Begin : goal.returns-in-Begin
returns-in-Begin c = label_reads (c.args.version == 2) (listed c.args.tokens.now) c.args.at c.requires.text.words (λ (s : Span). n.begin s (msg_of c.in_ok-label.label)) c.span_between-span.result c.in_ok-label.next c.span_between-span.ensures word.Begin (subst (λ (w : Reserved). IsThere (listed c.args.tokens.now) c.args.at (K.Reserved w)) c.in-Begin.is c.requires.first) (msg_of c.in_ok-label.label) c.in_ok-label.ensures c.in_ok-label.ensures.2.part.0 refl

pub returns-in-End : goal.returns-in-End
returns-in-End c = label_reads (c.args.version == 2) (listed c.args.tokens.now) c.args.at c.requires.text.words (λ (s : Span). n.end s (msg_of c.in_ok-label.label)) c.span_between-span.result c.in_ok-label.next c.span_between-span.ensures word.End (subst (λ (w : Reserved). IsThere (listed c.args.tokens.now) c.args.at (K.Reserved w)) c.in-End.is c.requires.first) (msg_of c.in_ok-label.label) c.in_ok-label.ensures c.in_ok-label.ensures.2.part.0 refl

pub returns-in_default : goal.returns-in_default
returns-in_default c =
    let last = last_label (c.args.version == 2) c.args.form c.requires.form c.in_default.not-Begin c.in_default.not-End in
    label_reads (c.args.version == 2) (listed c.args.tokens.now) c.args.at c.requires.text.words (λ (s : Span). n.end_many s (msg_of c.in_ok-label.label)) c.span_between-span.result c.in_ok-label.next c.span_between-span.ensures word.EndMany
    (subst (λ (w : Reserved). IsThere (listed c.args.tokens.now) c.args.at (K.Reserved w)) last.0 c.requires.first) (msg_of c.in_ok-label.label) c.in_ok-label.ensures (last.1, c.in_ok-label.ensures.2.part.0) refl

pub message_in-requires-clause-start : goal.message_in-requires-clause-start
message_in-requires-clause-start c = there_within (listed c.args.tokens.now) c.args.at (K.Reserved c.args.form) c.requires.first

pub span_between-span-requires-clause-within : goal.span_between-span-requires-clause-within
span_between-span-requires-clause-within c = message_within (c.args.version == 2) (listed c.args.tokens.now) (c.args.at + 1) (msg_of c.in_ok-label.label) c.in_ok-label.next (there_within (listed c.args.tokens.now) c.args.at (K.Reserved c.args.form) c.requires.first) c.in_ok-label.ensures
