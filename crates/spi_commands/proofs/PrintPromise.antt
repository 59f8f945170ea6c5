-- What `print` promises.
use Rattle.std.proofs.Common.{ℕ, List, Option, subst}
use Rattle.std.specs.Io.KnownBytes.{Appends}
use Rattle.spi_scope.specs.StandsFor.{Meant}
use Rattle.spi_commands.specs.declared.status.Status.{Status}
use Rattle.spi_commands.specs.Refusals.{layered, Refuses}
use Rattle.spi_commands.specs.Canonical.{IsPrint}
use Rattle.spi_commands.specs.Printing.{SpellsPrint, SpellsLongPrint, RefusesPrint, PrintsTo, IsPrinted}
use Rattle.spi_commands.proofs.FileFacts.{OneFile, RefusedNone, ReadsBack}
use Rattle.spi_commands.proofs.AnswerLines.{text_or_refused, accepted_at}
use Rattle.spi_commands.proofs.AnswerText.{never_longer, long_of}

module _ (one : OneFile) (none_of : RefusedNone) (bytes : List ℕ) where
  never_long : (output : List ℕ) → SpellsPrint bytes output → SpellsLongPrint bytes → ⊥
  never_long output (f, spells, is) (g, other, long) =
      never_longer g output (subst (λ (f : Meant). IsPrint f output) (one bytes f g spells other) is) long

  pub prints : ReadsBack → (old new : Option (List ℕ)) (output : List ℕ) (status : Status) → PrintsTo bytes status output → Appends old new output → IsPrinted bytes old new status
  prints reads old new output status is put =
      let exactly = text_or_refused bytes (SpellsPrint bytes) (RefusesPrint bytes) (SpellsLongPrint bytes) (none_of bytes) (λ n o s why. (why.0, why.1, long_of why.0 why.2)) (λ output given none. none given.0 given.1) never_long output status is in
      record {
        yes = exactly.yes;
        refused = exactly.refused;
        reads_back = λ e file spells.
            let (f, own, printed) = accepted_at bytes (SpellsPrint bytes) (layered (Refuses bytes) (RefusesPrint bytes)) output status is e in
            let shown : IsPrint file output = subst (λ (f : Meant). IsPrint f output) (one bytes f file own spells) printed in
            (output, put, shown, reads bytes output file spells shown.0 shown.1);
      }
