-- What `print` answers and promises.
use Rattle.std.specs.Prelude.{◌≡◌, ◌↔◌, ◌⊎◌, ℕ, List}
use Rattle.std.specs.declared.option.Option.{Option}
use Rattle.std.specs.Io.KnownBytes.{Appends}
use Rattle.spi_scope.specs.StandsFor.{Meant}
use Rattle.spi_commands.specs.declared.status.Status.{Status}
use Rattle.spi_commands.specs.declared.status.Status.TheVariants.{Yes, Refused}
use Rattle.spi_commands.specs.Spelled.{SpellsFile, SpellsNone}
use Rattle.spi_commands.specs.Answers.{Answers, never}
use Rattle.spi_commands.specs.Refusals.{layered, IsLineOf, Refuses}
use Rattle.spi_commands.specs.Canonical.{IsPrint, IsLong, HasLongPrint}

-- of the file that the bytes spell
abbrev pub SpellsPrint : List ℕ → List ℕ → Type 0
SpellsPrint bytes output = (file : Meant) × SpellsFile bytes file × IsPrint file output

abbrev pub SpellsLongPrint : List ℕ → Type 0
SpellsLongPrint bytes = (file : Meant) × SpellsFile bytes file × IsLong file

abbrev pub RefusesPrint : List ℕ → ℕ → Option ℕ → List ℕ → Type 0
RefusesPrint bytes number offset shown = (file : Meant) × SpellsFile bytes file
    × HasLongPrint file number offset shown

-- the canonical text, or a refusal
abbrev pub PrintsTo : List ℕ → Status → List ℕ → Type 0
PrintsTo bytes =
    Answers (SpellsPrint bytes) never (IsLineOf bytes (layered (Refuses bytes) (RefusesPrint bytes)))

-- `print` answers yes exactly where the file's canonical text is no longer than a file may be, and refused where it is
-- longer or the file is none; and after a yes what was appended is that text, and it spells the same file.
pub record IsPrinted (bytes : List ℕ) (old new : Option (List ℕ)) (status : Status) : Type 0 where
  pub yes : (status ≡ Yes) ↔ ((output : List ℕ) × SpellsPrint bytes output)
  pub refused : (status ≡ Refused) ↔ (SpellsNone bytes ⊎ SpellsLongPrint bytes)
  pub reads_back : status ≡ Yes → (file : Meant) → SpellsFile bytes file
      → (output : List ℕ) × Appends old new output × IsPrint file output × SpellsFile output file
