use Rattle.std.proofs.Common.{[], ◌==◌, refl}
use Rattle.spi_lex.specs.Numbered.{listed}
use Rattle.spi_lex.specs.declared.token.Mark.TheVariants as mark
use Rattle.spi_text.specs.declared.lines.Span.{Span}
use Rattle.spi_tree.specs.declared.tree.SWord.{SWord}
use Rattle.spi_tree.specs.Views.{proc_of}
use Rattle.spi_parse.specs.Formed.{whole_process, IsWholeProcess}
use Rattle.spi_heading.proofs.Failing.{fails_from}
use Rattle.spi_heading.proofs.Symbols.{the_mark, the_word, put}
use Rattle.spi_heading.proofs.RowParts.{then_part, no_part}
use Rattle.spi_heading.proofs.Reached.{ended, then_item, then_closing, no_item}
use Rattle.spi_heading.proofs.Calls.{untaken, there_within}
use Rattle.spi_heading.proofs.Nodes.{begun_node, node_fails, node_reads}
use Rattle.spi_edits.specs.Edits.{puts}
use Rattle.spi_edits.specs.Grammar.{put_word, whole_edit, IsEdit}
use Rattle.spi_edits.specs.Views.{edit_of}
use Rattle.spi_edits.proofs.EditRows.{marked_are, put_row, put_rest, put_tail, put_told, edits_good, edit_solid, process_fails, brace_fails, braced_read}
use Rattle.spi_edits.proofs.edits.put_at.Goals as goal

pub returns-in_err-name : goal.returns-in_err-name
returns-in_err-name c =
    node_fails (c.args.version == 2) whole_edit (IsEdit (c.args.version == 2)) edit_of put_word put_row (put_told (c.args.version == 2)) (listed c.args.tokens.now) c.args.at c.requires.first c.in_err-name.field-0.0 c.from_residual.result c.from_residual.ensures.1
    (no_part put_tail (marked_are (c.args.version == 2) mark.BraceOpen) (begun_node (c.args.version == 2) (listed c.args.tokens.now) c.args.at c.requires.text.words (the_word put) put_rest c.requires.first) (λ (w : SWord). w) c.in_err-name.field-0.0 c.in_err-name.ensures.read)

pub returns-in_err-part : goal.returns-in_err-part
returns-in_err-part c =
    let named = then_part put_tail (marked_are (c.args.version == 2) mark.BraceOpen) (begun_node (c.args.version == 2) (listed c.args.tokens.now) c.args.at c.requires.text.words (the_word put) put_rest c.requires.first) c.in_ok-name.name c.in_ok-name.part_at (there_within (listed c.args.tokens.now) c.args.at put_word c.requires.first) c.in_ok-name.ensures.read in
    node_fails (c.args.version == 2) whole_edit (IsEdit (c.args.version == 2)) edit_of put_word put_row (put_told (c.args.version == 2)) (listed c.args.tokens.now) c.args.at c.requires.first c.in_err-part.field-0.0 c.from_residual-in_err-part.result c.from_residual-in_err-part.ensures.1
    (no_item named c.in_err-part.field-0.0 (process_fails (c.args.version == 2) (listed c.args.tokens.now) c.in_ok-name.part_at c.in_err-part.field-0.0 (fails_from proc_of whole_process (IsWholeProcess (c.args.version == 2)) (listed c.args.tokens.now) c.in_ok-name.part_at c.in_err-part.field-0.0 c.in_err-part.ensures)))

pub returns-in_err-next : goal.returns-in_err-next
returns-in_err-next c =
    let named = then_part put_tail (marked_are (c.args.version == 2) mark.BraceOpen) (begun_node (c.args.version == 2) (listed c.args.tokens.now) c.args.at c.requires.text.words (the_word put) put_rest c.requires.first) c.in_ok-name.name c.in_ok-name.part_at (there_within (listed c.args.tokens.now) c.args.at put_word c.requires.first) c.in_ok-name.ensures.read in
    let fault = brace_fails (c.args.version == 2) (listed c.args.tokens.now) c.in_ok-name.part_at (proc_of c.in_ok-part.part) c.in_ok-part.close c.in_ok-name.ensures.within c.in_ok-part.ensures c.in_err-next.field-0.0 (untaken (c.args.version == 2) (listed c.args.tokens.now) c.in_ok-part.close (the_mark mark.BraceClose) c.in_err-next.field-0.0 c.in_err-next.ensures.taken) in
    node_fails (c.args.version == 2) whole_edit (IsEdit (c.args.version == 2)) edit_of put_word put_row (put_told (c.args.version == 2)) (listed c.args.tokens.now) c.args.at c.requires.first c.in_err-next.field-0.0 c.from_residual-in_err-next.result c.from_residual-in_err-next.ensures.1
    (no_item named c.in_err-next.field-0.0 fault)

pub returns : goal.returns
returns c =
    let named = then_part put_tail (marked_are (c.args.version == 2) mark.BraceOpen) (begun_node (c.args.version == 2) (listed c.args.tokens.now) c.args.at c.requires.text.words (the_word put) put_rest c.requires.first) c.in_ok-name.name c.in_ok-name.part_at (there_within (listed c.args.tokens.now) c.args.at put_word c.requires.first) c.in_ok-name.ensures.read in
    let braced = braced_read (c.args.version == 2) (listed c.args.tokens.now) c.in_ok-name.part_at (proc_of c.in_ok-part.part) c.in_ok-part.close c.in_ok-next.next c.in_ok-name.ensures.within c.in_ok-part.ensures c.in_ok-next.ensures.taken in
    node_reads (c.args.version == 2) whole_edit (IsEdit (c.args.version == 2)) (λ x. edit_solid x []) (edits_good (c.args.version == 2)).closed (listed c.args.tokens.now) c.args.at c.requires.text.words (λ (s : Span). puts s c.in_ok-name.name (proc_of c.in_ok-part.part)) c.span_between-span.result c.in_ok-next.next c.span_between-span.ensures c.in_ok-part.ensures.2.part.0 put_row _ refl
    (ended (then_closing (then_item named (proc_of c.in_ok-part.part) c.in_ok-next.next braced)))
