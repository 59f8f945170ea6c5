use Rattle.std.proofs.Common.{◌==◌, [], ◌∷◌, ◌++◌, refl}
use Rattle.spi_lex.specs.Numbered.{listed}
use Rattle.spi_lex.specs.declared.token.Kind.TheVariants as K
use Rattle.spi_lex.specs.declared.token.Mark.TheVariants as mark
use Rattle.spi_lex.specs.declared.token.Reserved.TheVariants as word
use Rattle.spi_text.specs.declared.lines.Span.{Span}
use Rattle.spi_tree.specs.declared.tree.SMsg.{SMsg}
use Rattle.spi_tree.specs.Views.{msg_of, ty_of}
use Rattle.spi_heading.specs.declared.shared.Named.{Named}
use Rattle.spi_heading.specs.Views.{named_of}
use Rattle.spi_heading.proofs.Symbols.{closing, the_reserved}
use Rattle.spi_heading.proofs.RowParts.{then_part, no_part}
use Rattle.spi_heading.proofs.Reached.{ended, then_closing}
use Rattle.spi_heading.proofs.Calls.{there_within}
use Rattle.spi_heading.proofs.Nodes.{begun_node, node_fails}
use Rattle.spi_narrate.specs.Narrations as n
use Rattle.spi_narrate.specs.Grammar.{whole_prefix, IsPrefix}
use Rattle.spi_narrate.specs.Views.{prefix_of}
use Rattle.spi_narrate.proofs.FormParts.{closed_row, bound_are, closed_are}
use Rattle.spi_narrate.proofs.Prefixes.{split_told, split_row, split_rest, prefix_reads}
use Rattle.spi_narrate.proofs.forms.split_at.Goals as goal

pub returns-in_err-bound : goal.returns-in_err-bound
returns-in_err-bound c =
    node_fails (c.args.version == 2) whole_prefix (IsPrefix (c.args.version == 2)) prefix_of (K.Reserved word.Split) split_row (split_told (c.args.version == 2)) (listed c.args.tokens.now) c.args.at c.requires.first c.in_err-bound.field-0.0 c.from_residual.result c.from_residual.ensures.1
    (no_part (closed_row mark.Comma ++ closing ∷ []) (bound_are (c.args.version == 2) mark.ParenOpen) (begun_node (c.args.version == 2) (listed c.args.tokens.now) c.args.at c.requires.text.words (the_reserved word.Split) split_rest c.requires.first) (λ (r : SMsg × Named). (msg_of r.0, named_of r.1)) c.in_err-bound.field-0.0 c.in_err-bound.ensures.read)

pub returns-in_err-right : goal.returns-in_err-right
returns-in_err-right c =
    let bound = then_part (closed_row mark.Comma ++ closing ∷ []) (bound_are (c.args.version == 2) mark.ParenOpen) (begun_node (c.args.version == 2) (listed c.args.tokens.now) c.args.at c.requires.text.words (the_reserved word.Split) split_rest c.requires.first) (msg_of c.in_ok-bound.bound.0, named_of c.in_ok-bound.bound.1) c.in_ok-bound.comma (there_within (listed c.args.tokens.now) c.args.at (K.Reserved word.Split) c.requires.first) c.in_ok-bound.ensures.read in
    node_fails (c.args.version == 2) whole_prefix (IsPrefix (c.args.version == 2)) prefix_of (K.Reserved word.Split) split_row (split_told (c.args.version == 2)) (listed c.args.tokens.now) c.args.at c.requires.first c.in_err-right.field-0.0 c.from_residual-in_err-right.result c.from_residual-in_err-right.ensures.1
    (no_part (closing ∷ []) (closed_are (c.args.version == 2) mark.Comma) bound named_of c.in_err-right.field-0.0 c.in_err-right.ensures.read)

pub returns : goal.returns
returns c =
    let bound = then_part (closed_row mark.Comma ++ closing ∷ []) (bound_are (c.args.version == 2) mark.ParenOpen) (begun_node (c.args.version == 2) (listed c.args.tokens.now) c.args.at c.requires.text.words (the_reserved word.Split) split_rest c.requires.first) (msg_of c.in_ok-bound.bound.0, named_of c.in_ok-bound.bound.1) c.in_ok-bound.comma (there_within (listed c.args.tokens.now) c.args.at (K.Reserved word.Split) c.requires.first) c.in_ok-bound.ensures.read in
    let right = then_part (closing ∷ []) (closed_are (c.args.version == 2) mark.Comma) bound (named_of c.in_ok-right.right) c.in_ok-right.next c.in_ok-bound.ensures.within c.in_ok-right.ensures.read in
    let read = prefix_reads (c.args.version == 2) (listed c.args.tokens.now) c.args.at c.requires.text.words (λ (s : Span). n.split s (msg_of c.in_ok-bound.bound.0) c.in_ok-bound.bound.1.name (ty_of c.in_ok-bound.bound.1.ty.value) c.in_ok-right.right.name (ty_of c.in_ok-right.right.ty.value)) c.span_between-span.result c.in_ok-right.next c.span_between-span.ensures (c.in_ok-bound.ensures.read.2.part.0, c.in_ok-bound.ensures.read.2.part.1, c.in_ok-right.ensures.read.2.part.0) split_row _ refl (ended (then_closing right)) in
    rw c.in-Ok.ensures.ok read

pub bound_at-requires-clause-start : goal.bound_at-requires-clause-start
bound_at-requires-clause-start c = there_within (listed c.args.tokens.now) c.args.at (K.Reserved word.Split) c.requires.first
