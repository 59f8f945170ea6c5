-- The canonical text of a file as an answer.
use Rattle.std.specs.Prelude.{ℕ, ◌<◌, ◌≤◌, List, length}
use Rattle.std.specs.declared.option.Option.{Option}
use Rattle.spi_scope.specs.StandsFor.{Meant}
use Rattle.spi_show.specs.Files.{IsCanonicalText}
use Rattle.spi_commands.specs.declared.status.Status.{Status}
use Rattle.spi_commands.specs.Spelled.{limit}
use Rattle.spi_commands.specs.Answers.{Answers, never}
use Rattle.spi_commands.specs.Refusals.{IsLineOf, IsTooMuch}

-- the text is the canonical one of the file, and is no longer than a file may be
abbrev pub IsPrint : Meant → List ℕ → Type 0
IsPrint file output = IsCanonicalText file output × (length output ≤ limit)

-- that text is too long
abbrev pub IsLong : Meant → Type 0
IsLong file = (text : List ℕ) × IsCanonicalText file text × (limit < length text)

abbrev pub HasLongPrint : Meant → ℕ → Option ℕ → List ℕ → Type 0
HasLongPrint file number offset shown = (text : List ℕ) × IsCanonicalText file text
    × IsTooMuch (length text) number offset shown

-- that text, or the line of its refusal, among these bytes
abbrev pub ShowsTo : List ℕ → Meant → Status → List ℕ → Type 0
ShowsTo bytes file = Answers (IsPrint file) never (IsLineOf bytes (HasLongPrint file))
