use Rattle.std.proofs.Common.{◌==◌}
use Rattle.spi_lex.specs.Numbered.{listed}
use Rattle.spi_heading.proofs.Rows.{fails_opening, fails_first}
use Rattle.spi_heading.proofs.Symbols.{name}
use Rattle.spi_heading.proofs.Calls.{untaken_word}
use Rattle.spi_narrate.specs.Views.{line_of}
use Rattle.spi_narrate.proofs.LineRows.{line_answer, head_fails}
use Rattle.spi_narrate.proofs.lines.LinesRepeatedPart.part_at.Goals as goal

pub returns-in_err-role : goal.returns-in_err-role
returns-in_err-role c =
    line_answer (c.args.version == 2) (listed c.args.tokens.now) line_of c.args.at c.in_err-role.field-0.0 c.from_residual.result c.from_residual.ensures.1
    (head_fails (c.args.version == 2) (listed c.args.tokens.now) c.args.at c.requires.text.words c.in_err-role.field-0.0 (fails_opening (c.args.version == 2) (listed c.args.tokens.now) c.args.at _ c.in_err-role.field-0.0 (fails_first (c.args.version == 2) (listed c.args.tokens.now) c.args.at name _ c.in_err-role.field-0.0 (untaken_word (c.args.version == 2) (listed c.args.tokens.now) c.args.at c.in_err-role.field-0.0 c.in_err-role.ensures.taken))))
