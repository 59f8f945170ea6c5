use Rattle.std.proofs.Common.{◌==◌}
use Rattle.spi_lex.specs.Numbered.{listed}
use Rattle.spi_tree.specs.declared.tree.SWord.{SWord}
use Rattle.spi_heading.proofs.RowParts.{part_fails}
use Rattle.spi_heading.proofs.Reached.{begun, no_token}
use Rattle.spi_narrate.proofs.RoleRows.{comma_row, comma_are, further_reads}
use Rattle.spi_narrate.proofs.roles.FurtherWordsRepeatedPart.part_at.Goals as goal

pub returns-in_err-word_at : goal.returns-in_err-word_at
returns-in_err-word_at c =
    part_fails (comma_are (c.args.version == 2)) (listed c.args.tokens.now) c.args.at (λ (w : SWord). w) c.in_err-word_at.field-0.0 c.from_residual.result c.from_residual.ensures.1
    (no_token (begun (c.args.version == 2) (listed c.args.tokens.now) c.args.at comma_row c.requires.text.words) c.in_err-word_at.field-0.0 c.in_err-word_at.ensures.taken)

pub returns : goal.returns
returns c = further_reads (c.args.version == 2) (listed c.args.tokens.now) c.args.at c.in_ok-word_at.word_at c.requires.text.words c.in_ok-word_at.ensures.taken c.take_word.result c.take_word.ensures.taken
