use Rattle.std.proofs.Common.{[], ◌∷◌, ◌==◌, refl}
use Rattle.spi_lex.specs.Numbered.{listed}
use Rattle.spi_lex.specs.declared.token.Mark.TheVariants as mark
use Rattle.spi_text.specs.declared.lines.Span.{Span}
use Rattle.spi_tree.specs.declared.tree.SWord.{SWord}
use Rattle.spi_heading.proofs.Calls.{there_within}
use Rattle.spi_heading.proofs.Symbols.{closing, the_word, drop_}
use Rattle.spi_heading.proofs.RowParts.{then_part, no_part}
use Rattle.spi_heading.proofs.Reached.{ended, then_closing}
use Rattle.spi_heading.proofs.Nodes.{begun_node, node_fails, node_reads}
use Rattle.spi_edits.specs.Edits.{drops}
use Rattle.spi_edits.specs.Grammar.{drop_word, whole_edit, IsEdit}
use Rattle.spi_edits.specs.Views.{edit_of}
use Rattle.spi_edits.proofs.EditRows.{marked_are, drop_row, drop_rest, drop_told, edits_good, edit_solid}
use Rattle.spi_edits.proofs.edits.drop_at.Goals as goal

pub returns-in_err-name : goal.returns-in_err-name
returns-in_err-name c =
    node_fails (c.args.version == 2) whole_edit (IsEdit (c.args.version == 2)) edit_of drop_word drop_row (drop_told (c.args.version == 2)) (listed c.args.tokens.now) c.args.at c.requires.first c.in_err-name.field-0.0 c.from_residual.result c.from_residual.ensures.1
    (no_part (closing ∷ []) (marked_are (c.args.version == 2) mark.Semicolon) (begun_node (c.args.version == 2) (listed c.args.tokens.now) c.args.at c.requires.text.words (the_word drop_) drop_rest c.requires.first) (λ (w : SWord). w) c.in_err-name.field-0.0 c.in_err-name.ensures.read)

pub returns : goal.returns
returns c =
    let named = then_part (closing ∷ []) (marked_are (c.args.version == 2) mark.Semicolon) (begun_node (c.args.version == 2) (listed c.args.tokens.now) c.args.at c.requires.text.words (the_word drop_) drop_rest c.requires.first) c.in_ok-name.name c.in_ok-name.next (there_within (listed c.args.tokens.now) c.args.at drop_word c.requires.first) c.in_ok-name.ensures.read in
    node_reads (c.args.version == 2) whole_edit (IsEdit (c.args.version == 2)) (λ x. edit_solid x []) (edits_good (c.args.version == 2)).closed (listed c.args.tokens.now) c.args.at c.requires.text.words (λ (s : Span). drops s c.in_ok-name.name) c.span_between-span.result c.in_ok-name.next c.span_between-span.ensures tt drop_row _ refl
    (ended (then_closing named))
