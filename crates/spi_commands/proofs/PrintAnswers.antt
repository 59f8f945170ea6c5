-- What `print` answers on a file.
use Rattle.std.proofs.Common.{ℕ, List, Result, IfOk, inr}
use Rattle.spi_scope.specs.declared.file.File.{File}
use Rattle.spi_scope.specs.Files.{meant}
use Rattle.spi_commands.specs.declared.answer.Answer.{Answer}
use Rattle.spi_commands.specs.Refusals.{layered, Refuses}
use Rattle.spi_commands.specs.Canonical.{ShowsTo}
use Rattle.spi_commands.specs.Printing.{SpellsPrint, RefusesPrint, PrintsTo}
use Rattle.spi_commands.specs.Reading.{IsRead}
use Rattle.spi_commands.proofs.AnswerText.{shown_as}

pub printed : {E : Type 0} (bytes : List ℕ) (f : File) (result : Result Answer E) → IsRead bytes f → IfOk result (λ a. ShowsTo bytes (meant f) a.status a.output.items) → IfOk result (λ a. PrintsTo bytes a.status a.output.items)
printed bytes f result (tree, is, stands, marks) h =
    shown_as bytes (meant f) (SpellsPrint bytes) (layered (Refuses bytes) (RefusesPrint bytes)) result
    (λ output p. (meant f, (tree, is, stands), p)) (λ n o s l. inr (meant f, (tree, is, stands), l)) h
