use Rattle.std.proofs.Common.{◌==◌}
use Rattle.spi_lex.specs.Numbered.{listed}
use Rattle.spi_tree.specs.Views.{msg_of}
use Rattle.spi_heading.proofs.RowParts.{part_fails, part_reads}
use Rattle.spi_heading.proofs.Reached.{begun, ended, then_message, then_token, no_message, no_token}
use Rattle.spi_narrate.proofs.FormParts.{whole_row, whole_are}
use Rattle.spi_narrate.proofs.forms.whole_at.Goals as goal

pub returns-in_err-whole-clause-read : goal.returns-in_err-whole-clause-read
returns-in_err-whole-clause-read c =
    let start = begun (c.args.version == 2) (listed c.args.tokens.now) c.args.at whole_row c.requires.text.words in
    part_fails (whole_are (c.args.version == 2)) (listed c.args.tokens.now) c.args.at msg_of c.in_err-whole.field-0.0 c.from_residual.result c.from_residual.ensures.1 (no_message start msg_of c.in_err-whole.field-0.0 c.in_err-whole.ensures)

pub returns-in_err-next-clause-read : goal.returns-in_err-next-clause-read
returns-in_err-next-clause-read c =
    let start = begun (c.args.version == 2) (listed c.args.tokens.now) c.args.at whole_row c.requires.text.words in
    let whole = then_message start (msg_of c.in_ok-whole.whole) c.in_ok-whole.is_at c.requires.start c.in_ok-whole.ensures in
    part_fails (whole_are (c.args.version == 2)) (listed c.args.tokens.now) c.args.at msg_of c.in_err-next.field-0.0 c.from_residual-in_err-next.result c.from_residual-in_err-next.ensures.1 (no_token whole c.in_err-next.field-0.0 c.in_err-next.ensures.taken)

pub returns-clause-read : goal.returns-clause-read
returns-clause-read c =
    let start = begun (c.args.version == 2) (listed c.args.tokens.now) c.args.at whole_row c.requires.text.words in
    let whole = then_message start (msg_of c.in_ok-whole.whole) c.in_ok-whole.is_at c.requires.start c.in_ok-whole.ensures in
    part_reads (whole_are (c.args.version == 2)) (listed c.args.tokens.now) c.args.at c.requires.text.words (msg_of c.in_ok-whole.whole) c.in_ok-next.next (ended (then_token whole c.in_ok-next.next c.in_ok-next.ensures.taken))
