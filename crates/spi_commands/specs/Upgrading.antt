-- The file of version 2 that a file is upgraded to; what `upgrade` answers and promises.
use Rattle.std.specs.Prelude.{◌≡◌, ◌↔◌, ◌⊎◌, ℕ, ◌<◌, List, [], ◌∷◌, ◌++◌, codes, Some, slice_get}
use Rattle.std.specs.declared.option.Option.{Option}
use Rattle.std.specs.Fmt.{decimal}
use Rattle.std.specs.Io.KnownBytes.{Appends}
use Rattle.spi_scope.specs.StandsFor.{Meant}
use Rattle.spi_commands.specs.declared.status.Status.{Status}
use Rattle.spi_commands.specs.declared.status.Status.TheVariants.{Yes, Refused}
use Rattle.spi_commands.specs.Spelled.{SpellsFile, SpellsDerivable, SpellsUnderivable, SpellsNone, SpellsProved, SpellsUnproved, SpellsUnderived}
use Rattle.spi_commands.specs.Answers.{Answers, never}
use Rattle.spi_commands.specs.Refusals.{layered, IsLineOf, Refuses}
use Rattle.spi_commands.specs.Canonical.{IsPrint, IsLong, HasLongPrint}

-- the words that version 2 reserves and version 1 doesn't
abbrev pub IsNewWord : List ℕ → Type 0
IsNewWord word = (word ≡ codes "hash") ⊎ ((word ≡ codes "endmany") ⊎ (word ≡ codes "many"))

-- one of the names is spelled so
abbrev pub IsSpelled : List (List ℕ) → List ℕ → Type 0
IsSpelled names word = (x : ℕ) × (slice_get names x ≡ Some word)

-- a word with a number behind it
abbrev pub numbered_word : List ℕ → ℕ → List ℕ
numbered_word word n = word ++ (codes "_" ++ decimal n)

-- a new word gets the least number from 0 with which no name of the file is spelled so
pub record IsRenumbered (names : List (List ℕ)) (old new : List ℕ) : Type 0 where
  pub number : ℕ
  pub spelled : new ≡ numbered_word old number
  pub free : ¬ IsSpelled names (numbered_word old number)
  pub least : (n : ℕ) → n < number → IsSpelled names (numbered_word old n)

-- and every other name keeps its spelling
abbrev pub IsRespelled : List (List ℕ) → List ℕ → List ℕ → Type 0
IsRespelled names old new = (IsNewWord old × IsRenumbered names old new) ⊎ ((¬ IsNewWord old) × (new ≡ old))

pub data AreRespelled (names : List (List ℕ)) : List (List ℕ) → List (List ℕ) → Type 0 where
  none_respelled : AreRespelled names [] []
  one_respelled : {old new : List ℕ} {olds news : List (List ℕ)} → IsRespelled names old new
      → AreRespelled names olds news → AreRespelled names (old ∷ olds) (new ∷ news)

-- the same file but for its version and the spelling of its free names
pub record IsVersion2 (file upgraded : Meant) : Type 0 where
  pub version : upgraded.version ≡ 2
  pub process : upgraded.process ≡ file.process
  pub opponent : upgraded.opponent ≡ file.opponent
  pub schedule : upgraded.schedule ≡ file.schedule
  pub derivation : upgraded.derivation ≡ file.derivation

-- a file of version 1 is upgraded to one of version 2, whose names are respelled, and one of version 2 to itself
abbrev pub IsUpgrade : Meant → Meant → Type 0
IsUpgrade file upgraded =
    ((file.version ≡ 1) × IsVersion2 file upgraded × AreRespelled file.names file.names upgraded.names)
    ⊎ ((file.version ≡ 2) × (upgraded ≡ file))

-- ---- the command

-- of the file that the file of these bytes is upgraded to
abbrev pub SpellsUpgrade : List ℕ → List ℕ → Type 0
SpellsUpgrade bytes output = (file upgraded : Meant) × SpellsFile bytes file × IsUpgrade file upgraded
    × IsPrint upgraded output

abbrev pub SpellsLongUpgrade : List ℕ → Type 0
SpellsLongUpgrade bytes = (file upgraded : Meant) × SpellsFile bytes file × IsUpgrade file upgraded
    × IsLong upgraded

abbrev pub RefusesUpgrade : List ℕ → ℕ → Option ℕ → List ℕ → Type 0
RefusesUpgrade bytes number offset shown =
    (file upgraded : Meant) × SpellsFile bytes file × IsUpgrade file upgraded
    × HasLongPrint upgraded number offset shown

-- the canonical text in version 2, or a refusal
abbrev pub UpgradesTo : List ℕ → Status → List ℕ → Type 0
UpgradesTo bytes =
    Answers (SpellsUpgrade bytes) never (IsLineOf bytes (layered (Refuses bytes) (RefusesUpgrade bytes)))

-- `check` and `verify` give the same status on both
pub record HaveSameAnswers (bytes output : List ℕ) : Type 0 where
  pub derivable : SpellsDerivable bytes ↔ SpellsDerivable output
  pub underivable : SpellsUnderivable bytes ↔ SpellsUnderivable output
  pub proved : SpellsProved bytes ↔ SpellsProved output
  pub unproved : SpellsUnproved bytes ↔ SpellsUnproved output
  pub underived : SpellsUnderived bytes ↔ SpellsUnderived output

-- `upgrade` answers yes exactly where the canonical text of the file in version 2 is no longer than a file may be, and
-- refused where it is longer or the file is none; and after a yes what was appended is that text, and it spells that file,
-- whose process, opponent, schedule and derivation are those of the first.
pub record IsUpgraded (bytes : List ℕ) (old new : Option (List ℕ)) (status : Status) : Type 0 where
  pub yes : (status ≡ Yes) ↔ ((output : List ℕ) × SpellsUpgrade bytes output)
  pub refused : (status ≡ Refused) ↔ (SpellsNone bytes ⊎ SpellsLongUpgrade bytes)
  pub reads_back : status ≡ Yes → (file : Meant) → SpellsFile bytes file
      → (output : List ℕ) × (upgraded : Meant) × Appends old new output × IsUpgrade file upgraded
      × IsPrint upgraded output
      × SpellsFile output upgraded × HaveSameAnswers bytes output
