use Rattle.std.proofs.Common.{◌==◌}
use Rattle.spi_lex.specs.Numbered.{listed}
use Rattle.spi_heading.specs.Views.{named_of}
use Rattle.spi_heading.proofs.RowParts.{part_fails, part_reads, then_part, no_part}
use Rattle.spi_heading.proofs.Reached.{begun, ended, then_token, no_token}
use Rattle.spi_heading.proofs.Names.{named_are}
use Rattle.spi_narrate.proofs.FormParts.{closing_row, closed_row, closed_are}
use Rattle.spi_narrate.proofs.forms.closed_at.Goals as goal

pub returns-in_err-name_at-clause-read : goal.returns-in_err-name_at-clause-read
returns-in_err-name_at-clause-read c =
    let start = begun (c.args.version == 2) (listed c.args.tokens.now) c.args.at (closed_row c.args.mark) c.requires.text.words in
    part_fails (closed_are (c.args.version == 2) c.args.mark) (listed c.args.tokens.now) c.args.at named_of c.in_err-name_at.field-0.0 c.from_residual.result c.from_residual.ensures.1 (no_token start c.in_err-name_at.field-0.0 c.in_err-name_at.ensures.taken)

pub returns-in_err-named-clause-read : goal.returns-in_err-named-clause-read
returns-in_err-named-clause-read c =
    let marked = then_token (begun (c.args.version == 2) (listed c.args.tokens.now) c.args.at (closed_row c.args.mark) c.requires.text.words) c.in_ok-name_at.name_at c.in_ok-name_at.ensures.taken in
    part_fails (closed_are (c.args.version == 2) c.args.mark) (listed c.args.tokens.now) c.args.at named_of c.in_err-named.field-0.0 c.from_residual-in_err-named.result c.from_residual-in_err-named.ensures.1
    (no_part closing_row (named_are (c.args.version == 2)) marked named_of c.in_err-named.field-0.0 c.in_err-named.ensures.read)

pub returns-in_err-next-clause-read : goal.returns-in_err-next-clause-read
returns-in_err-next-clause-read c =
    let marked = then_token (begun (c.args.version == 2) (listed c.args.tokens.now) c.args.at (closed_row c.args.mark) c.requires.text.words) c.in_ok-name_at.name_at c.in_ok-name_at.ensures.taken in
    let named = then_part closing_row (named_are (c.args.version == 2)) marked (named_of c.in_ok-named.named) c.in_ok-named.close c.in_ok-name_at.ensures.within c.in_ok-named.ensures.read in
    part_fails (closed_are (c.args.version == 2) c.args.mark) (listed c.args.tokens.now) c.args.at named_of c.in_err-next.field-0.0 c.from_residual-in_err-next.result c.from_residual-in_err-next.ensures.1 (no_token named c.in_err-next.field-0.0 c.in_err-next.ensures.taken)

pub returns-clause-read : goal.returns-clause-read
returns-clause-read c =
    let marked = then_token (begun (c.args.version == 2) (listed c.args.tokens.now) c.args.at (closed_row c.args.mark) c.requires.text.words) c.in_ok-name_at.name_at c.in_ok-name_at.ensures.taken in
    let named = then_part closing_row (named_are (c.args.version == 2)) marked (named_of c.in_ok-named.named) c.in_ok-named.close c.in_ok-name_at.ensures.within c.in_ok-named.ensures.read in
    part_reads (closed_are (c.args.version == 2) c.args.mark) (listed c.args.tokens.now) c.args.at c.requires.text.words (named_of c.in_ok-named.named) c.in_ok-next.next (ended (then_token named c.in_ok-next.next c.in_ok-next.ensures.taken))
