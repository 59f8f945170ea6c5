-- What bytes spell: a text of some kind, or a file, and what holds of its process and of its derivation.
use Rattle.std.specs.Prelude.{◌≡◌, ◌≤◌, ℕ, List, [], length, Ok, Some, None}
use Rattle.spi_lex.specs.declared.token.Token.{Token}
use Rattle.spi_lex.specs.Lexing.{Lexes}
use Rattle.spi_scope.specs.StandsFor.{Meant}
use Rattle.spi_rules.specs.Environment.{untrusted}
use Rattle.spi_rules.specs.Derivations.{RuleUse, Derivable, Proves}
use Rattle.spi_run.specs.Safety.{RobustlySafe, RobustlySafeMany}
pub use Rattle.spi_spell.specs.Spelled.{limit, IsTreeOf, SpellsFile}

-- The bytes are no more than a file may have, and their tokens spell this text, of whatever kind.
pub record AreBytesOf {X : Type 0} (Spells : X → List Token → Type 0) (bytes : List ℕ) (x : X) : Type 0 where
  pub within : length bytes ≤ limit
  pub tokens : List Token
  pub lexed : Lexes bytes (Ok tokens)
  pub spelled : Spells x tokens

-- the file's process has a typing derivation of empty effect, where its free names are untrusted
abbrev pub IsDerivable : Meant → Type 0
IsDerivable file = Derivable (untrusted file.process.names) file.process.process []

-- the bytes spell a file whose process has such a derivation
abbrev pub SpellsDerivable : List ℕ → Type 0
SpellsDerivable bytes = (file : Meant) × SpellsFile bytes file × IsDerivable file

-- the bytes spell a file whose process has none
abbrev pub SpellsUnderivable : List ℕ → Type 0
SpellsUnderivable bytes = (file : Meant) × SpellsFile bytes file × (¬ IsDerivable file)

-- the bytes spell no file
abbrev pub SpellsNone : List ℕ → Type 0
SpellsNone bytes = (file : Meant) → ¬ SpellsFile bytes file

-- the derivation proves that the file's process has the empty effect, where its free names are untrusted
abbrev pub IsProved : Meant → List RuleUse → Type 0
IsProved file d = Proves d (untrusted file.process.names) file.process.process []

-- the bytes spell a file whose derivation proves that, and one whose derivation doesn't
abbrev pub SpellsProved : List ℕ → Type 0
SpellsProved bytes = (file : Meant) × (d : List RuleUse) × SpellsFile bytes file × (file.derivation ≡ Some d)
    × IsProved file d

abbrev pub SpellsUnproved : List ℕ → Type 0
SpellsUnproved bytes = (file : Meant) × (d : List RuleUse) × SpellsFile bytes file
    × (file.derivation ≡ Some d) × (¬ IsProved file d)

-- the bytes spell a file without a derivation
abbrev pub SpellsUnderived : List ℕ → Type 0
SpellsUnderived bytes = (file : Meant) × SpellsFile bytes file × (file.derivation ≡ None)

-- The process of the file that the bytes spell is robustly safe: beside every opponent, along every run of
-- every length, each end event has an earlier begin event of its own with the same label.
abbrev pub IsSafe : List ℕ → Type 0
IsSafe bytes = (file : Meant) → SpellsFile bytes file → RobustlySafe file.process.names file.process.process

-- beside every opponent, along every run of every length, each endmany event has an earlier begin event with the same label
abbrev pub IsManySafe : List ℕ → Type 0
IsManySafe bytes = (file : Meant) → SpellsFile bytes file
    → RobustlySafeMany file.process.names file.process.process
