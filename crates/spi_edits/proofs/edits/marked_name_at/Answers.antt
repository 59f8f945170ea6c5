use Rattle.std.proofs.Common.{◌==◌}
use Rattle.spi_lex.specs.Numbered.{listed}
use Rattle.spi_tree.specs.declared.tree.SWord.{SWord}
use Rattle.spi_heading.proofs.RowParts.{part_fails, part_reads}
use Rattle.spi_heading.proofs.Reached.{begun, ended, then_word, then_token, no_word, no_token}
use Rattle.spi_edits.proofs.EditRows.{marked_row, marked_are}
use Rattle.spi_edits.proofs.edits.marked_name_at.Goals as goal

pub returns-in_err-name-clause-read : goal.returns-in_err-name-clause-read
returns-in_err-name-clause-read c =
    part_fails (marked_are (c.args.version == 2) c.args.mark) (listed c.args.tokens.now) c.args.at (λ (w : SWord). w) c.in_err-name.field-0.0 c.from_residual.result c.from_residual.ensures.1
    (no_word (begun (c.args.version == 2) (listed c.args.tokens.now) c.args.at (marked_row c.args.mark) c.requires.text.words) c.in_err-name.field-0.0 c.in_err-name.ensures.taken)

pub returns-in_err-next-clause-read : goal.returns-in_err-next-clause-read
returns-in_err-next-clause-read c =
    part_fails (marked_are (c.args.version == 2) c.args.mark) (listed c.args.tokens.now) c.args.at (λ (w : SWord). w) c.in_err-next.field-0.0 c.from_residual-in_err-next.result c.from_residual-in_err-next.ensures.1
    (no_token (then_word (begun (c.args.version == 2) (listed c.args.tokens.now) c.args.at (marked_row c.args.mark) c.requires.text.words) c.in_ok-name.name c.in_ok-name.mark_at c.in_ok-name.ensures.taken) c.in_err-next.field-0.0 c.in_err-next.ensures.taken)

pub returns-clause-read : goal.returns-clause-read
returns-clause-read c =
    let named = then_word (begun (c.args.version == 2) (listed c.args.tokens.now) c.args.at (marked_row c.args.mark) c.requires.text.words) c.in_ok-name.name c.in_ok-name.mark_at c.in_ok-name.ensures.taken in
    part_reads (marked_are (c.args.version == 2) c.args.mark) (listed c.args.tokens.now) c.args.at c.requires.text.words c.in_ok-name.name c.in_ok-next.next (ended (then_token named c.in_ok-next.next c.in_ok-next.ensures.taken))
