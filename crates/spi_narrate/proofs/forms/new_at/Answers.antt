use Rattle.std.proofs.Common.{◌==◌, [], ◌∷◌, refl}
use Rattle.spi_lex.specs.Numbered.{listed}
use Rattle.spi_lex.specs.declared.token.Kind.TheVariants as K
use Rattle.spi_lex.specs.declared.token.Mark.TheVariants as mark
use Rattle.spi_lex.specs.declared.token.Reserved.TheVariants as word
use Rattle.spi_text.specs.declared.lines.Span.{Span}
use Rattle.spi_tree.specs.Views.{ty_of}
use Rattle.spi_heading.specs.Views.{named_of}
use Rattle.spi_heading.proofs.Symbols.{closing, the_reserved}
use Rattle.spi_heading.proofs.RowParts.{then_part, no_part}
use Rattle.spi_heading.proofs.Reached.{ended, then_closing}
use Rattle.spi_heading.proofs.Calls.{there_within}
use Rattle.spi_heading.proofs.Nodes.{begun_node, node_fails}
use Rattle.spi_narrate.specs.Narrations as n
use Rattle.spi_narrate.specs.Grammar.{whole_prefix, IsPrefix}
use Rattle.spi_narrate.specs.Views.{prefix_of}
use Rattle.spi_narrate.proofs.FormParts.{closed_are}
use Rattle.spi_narrate.proofs.Prefixes.{new_told, new_row, new_rest, prefix_reads}
use Rattle.spi_narrate.proofs.forms.new_at.Goals as goal

pub returns-in_err-bound : goal.returns-in_err-bound
returns-in_err-bound c =
    node_fails (c.args.version == 2) whole_prefix (IsPrefix (c.args.version == 2)) prefix_of (K.Reserved word.New) new_row (new_told (c.args.version == 2)) (listed c.args.tokens.now) c.args.at c.requires.first c.in_err-bound.field-0.0 c.from_residual.result c.from_residual.ensures.1
    (no_part (closing ∷ []) (closed_are (c.args.version == 2) mark.ParenOpen) (begun_node (c.args.version == 2) (listed c.args.tokens.now) c.args.at c.requires.text.words (the_reserved word.New) new_rest c.requires.first) named_of c.in_err-bound.field-0.0 c.in_err-bound.ensures.read)

pub returns : goal.returns
returns c =
    let named = then_part (closing ∷ []) (closed_are (c.args.version == 2) mark.ParenOpen) (begun_node (c.args.version == 2) (listed c.args.tokens.now) c.args.at c.requires.text.words (the_reserved word.New) new_rest c.requires.first) (named_of c.in_ok-bound.bound) c.in_ok-bound.next (there_within (listed c.args.tokens.now) c.args.at (K.Reserved word.New) c.requires.first) c.in_ok-bound.ensures.read in
    prefix_reads (c.args.version == 2) (listed c.args.tokens.now) c.args.at c.requires.text.words (λ (s : Span). n.new s c.in_ok-bound.bound.name (ty_of c.in_ok-bound.bound.ty.value)) c.span_between-span.result c.in_ok-bound.next c.span_between-span.ensures c.in_ok-bound.ensures.read.2.part.0 new_row _ refl
    (ended (then_closing named))

pub closed_at-requires-clause-start : goal.closed_at-requires-clause-start
closed_at-requires-clause-start c = there_within (listed c.args.tokens.now) c.args.at (K.Reserved word.New) c.requires.first
