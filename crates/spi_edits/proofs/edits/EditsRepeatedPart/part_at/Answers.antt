use Rattle.std.proofs.Common.{◌≡◌, ◌==◌, ◌∙◌, true, false, sym}
use Rattle.spi_lex.specs.Numbered.{listed}
use Rattle.spi_edits.specs.Views.{edit_of}
use Rattle.spi_edits.proofs.EditRows.{no_edit}
use Rattle.spi_edits.proofs.edits.EditsRepeatedPart.part_at.Goals as goal

pub returns-else-spelled_at-2 : goal.returns-else-spelled_at-2
returns-else-spelled_at-2 c = no_edit (c.args.version == 2) (listed c.args.tokens.now) c.args.at edit_of (λ there. let no : false ≡ true = sym c.if-spelled_at.false ∙ c.spelled_at.ensures.1 there in cc) (λ there. let no : false ≡ true = sym c.if-spelled_at-2.false ∙ c.spelled_at-else-spelled_at.ensures.1 there in cc)
