-- What `derive` answers and promises.
use Rattle.std.specs.Prelude.{◌≡◌, ◌↔◌, ◌⊎◌, ℕ, ◌<◌, ◌≤◌, List, length}
use Rattle.std.specs.declared.option.Option.{Option}
use Rattle.std.specs.Io.KnownBytes.{Appends}
use Rattle.spi_rules.specs.Derivations.{RuleUse}
use Rattle.spi_scope.specs.StandsFor.{Meant}
use Rattle.spi_deriv.specs.Canonical.{Canonical}
use Rattle.spi_deriv.specs.Text.{derivation_text}
use Rattle.spi_spell.specs.Joined.{joined_texts}
use Rattle.spi_commands.specs.declared.status.Status.{Status}
use Rattle.spi_commands.specs.declared.status.Status.TheVariants.{Yes, No, Refused}
use Rattle.spi_commands.specs.Spelled.{limit, SpellsFile, SpellsUnderivable, SpellsNone, SpellsUnderived, SpellsProved}
use Rattle.spi_commands.specs.Answers.{Answers}
use Rattle.spi_commands.specs.Refusals.{layered, IsLineOf, Refuses, IsTooMuch}
use Rattle.spi_commands.specs.NoLine.{IsNo}

-- the bytes spell a file of whose process this is the canonical derivation
abbrev pub SpellsCanonical : List ℕ → List RuleUse → Type 0
SpellsCanonical bytes d = (file : Meant) × SpellsFile bytes file
    × Canonical d file.process.names file.process.process

-- how many bytes the file and the text of a derivation behind it have
abbrev pub listing_length : List ℕ → List RuleUse → ℕ
listing_length bytes d = length (joined_texts bytes (derivation_text d))

-- the text is that derivation, and can stand behind the file
abbrev pub IsListing : List ℕ → List ℕ → Type 0
IsListing bytes output =
    (d : List RuleUse) × SpellsCanonical bytes d × (output ≡ derivation_text d)
    × (length (joined_texts bytes output) ≤ limit)

-- that derivation is too long for it
abbrev pub SpellsLongListing : List ℕ → Type 0
SpellsLongListing bytes = (d : List RuleUse) × SpellsCanonical bytes d × (limit < listing_length bytes d)

abbrev pub HasLongListing : List ℕ → ℕ → Option ℕ → List ℕ → Type 0
HasLongListing bytes number offset shown =
    (d : List RuleUse) × SpellsCanonical bytes d × IsTooMuch (listing_length bytes d) number offset shown

-- a listing, the no of `check`, or a refusal
abbrev pub DerivesTo : List ℕ → Status → List ℕ → Type 0
DerivesTo bytes =
    Answers (IsListing bytes) (λ output. SpellsUnderivable bytes × IsNo bytes output)
    (IsLineOf bytes (layered (Refuses bytes) (HasLongListing bytes)))

-- `derive` answers yes exactly where the file's process has a derivation that can stand behind the file, no exactly where it
-- has none, and refused where the file is none or the derivation is too long; and where the file has no derivation yet,
-- the file, one line feed and what is written are a file whose derivation proves its process.
pub record IsDerived (bytes : List ℕ) (old new : Option (List ℕ)) (status : Status) : Type 0 where
  pub yes : (status ≡ Yes) ↔ ((output : List ℕ) × IsListing bytes output)
  pub no : (status ≡ No) ↔ SpellsUnderivable bytes
  pub refused : (status ≡ Refused) ↔ (SpellsNone bytes ⊎ SpellsLongListing bytes)
  pub joins : status ≡ Yes → SpellsUnderived bytes
      → (output : List ℕ) × Appends old new output × SpellsProved (joined_texts bytes output)
