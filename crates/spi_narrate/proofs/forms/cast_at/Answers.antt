use Rattle.std.proofs.Common.{◌==◌, [], ◌∷◌, ◌++◌, refl}
use Rattle.spi_lex.specs.Numbered.{listed}
use Rattle.spi_lex.specs.declared.token.Kind.TheVariants as K
use Rattle.spi_lex.specs.declared.token.Mark.TheVariants as mark
use Rattle.spi_lex.specs.declared.token.Reserved.TheVariants as word
use Rattle.spi_text.specs.declared.lines.Span.{Span}
use Rattle.spi_tree.specs.Views.{msg_of, ty_of}
use Rattle.spi_heading.specs.Views.{named_of}
use Rattle.spi_heading.proofs.Symbols.{closing, the_reserved}
use Rattle.spi_heading.proofs.RowParts.{then_part, no_part}
use Rattle.spi_heading.proofs.Reached.{ended, then_closing}
use Rattle.spi_heading.proofs.Calls.{there_within}
use Rattle.spi_heading.proofs.Nodes.{begun_node, node_fails}
use Rattle.spi_narrate.specs.Narrations as n
use Rattle.spi_narrate.specs.Grammar.{whole_prefix, IsPrefix}
use Rattle.spi_narrate.specs.Views.{prefix_of}
use Rattle.spi_narrate.proofs.FormParts.{closed_row, whole_are, closed_are}
use Rattle.spi_narrate.proofs.Prefixes.{cast_told, cast_row, cast_rest, prefix_reads}
use Rattle.spi_narrate.proofs.forms.cast_at.Goals as goal

pub returns-in_err-whole : goal.returns-in_err-whole
returns-in_err-whole c =
    node_fails (c.args.version == 2) whole_prefix (IsPrefix (c.args.version == 2)) prefix_of (K.Reserved word.Cast) cast_row (cast_told (c.args.version == 2)) (listed c.args.tokens.now) c.args.at c.requires.first c.in_err-whole.field-0.0 c.from_residual.result c.from_residual.ensures.1
    (no_part (closed_row mark.ParenOpen ++ closing ∷ []) (whole_are (c.args.version == 2)) (begun_node (c.args.version == 2) (listed c.args.tokens.now) c.args.at c.requires.text.words (the_reserved word.Cast) cast_rest c.requires.first) msg_of c.in_err-whole.field-0.0 c.in_err-whole.ensures.read)

pub returns-in_err-bound : goal.returns-in_err-bound
returns-in_err-bound c =
    let whole = then_part (closed_row mark.ParenOpen ++ closing ∷ []) (whole_are (c.args.version == 2)) (begun_node (c.args.version == 2) (listed c.args.tokens.now) c.args.at c.requires.text.words (the_reserved word.Cast) cast_rest c.requires.first) (msg_of c.in_ok-whole.whole) c.in_ok-whole.open (there_within (listed c.args.tokens.now) c.args.at (K.Reserved word.Cast) c.requires.first) c.in_ok-whole.ensures.read in
    node_fails (c.args.version == 2) whole_prefix (IsPrefix (c.args.version == 2)) prefix_of (K.Reserved word.Cast) cast_row (cast_told (c.args.version == 2)) (listed c.args.tokens.now) c.args.at c.requires.first c.in_err-bound.field-0.0 c.from_residual-in_err-bound.result c.from_residual-in_err-bound.ensures.1
    (no_part (closing ∷ []) (closed_are (c.args.version == 2) mark.ParenOpen) whole named_of c.in_err-bound.field-0.0 c.in_err-bound.ensures.read)

pub returns : goal.returns
returns c =
    let whole = then_part (closed_row mark.ParenOpen ++ closing ∷ []) (whole_are (c.args.version == 2)) (begun_node (c.args.version == 2) (listed c.args.tokens.now) c.args.at c.requires.text.words (the_reserved word.Cast) cast_rest c.requires.first) (msg_of c.in_ok-whole.whole) c.in_ok-whole.open (there_within (listed c.args.tokens.now) c.args.at (K.Reserved word.Cast) c.requires.first) c.in_ok-whole.ensures.read in
    let named = then_part (closing ∷ []) (closed_are (c.args.version == 2) mark.ParenOpen) whole (named_of c.in_ok-bound.bound) c.in_ok-bound.next c.in_ok-whole.ensures.within c.in_ok-bound.ensures.read in
    prefix_reads (c.args.version == 2) (listed c.args.tokens.now) c.args.at c.requires.text.words (λ (s : Span). n.cast s (msg_of c.in_ok-whole.whole) c.in_ok-bound.bound.name (ty_of c.in_ok-bound.bound.ty.value)) c.span_between-span.result c.in_ok-bound.next c.span_between-span.ensures (c.in_ok-whole.ensures.read.2.part.0, c.in_ok-bound.ensures.read.2.part.0) cast_row _ refl
    (ended (then_closing named))

pub whole_at-requires-clause-start : goal.whole_at-requires-clause-start
whole_at-requires-clause-start c = there_within (listed c.args.tokens.now) c.args.at (K.Reserved word.Cast) c.requires.first
