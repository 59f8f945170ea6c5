-- What `check` answers and promises.
use Rattle.std.specs.Prelude.{◌≡◌, ◌↔◌, ℕ, List, codes}
use Rattle.std.specs.declared.option.Option.{Option}
use Rattle.std.specs.Io.KnownBytes.{Appends}
use Rattle.spi_commands.specs.declared.status.Status.{Status}
use Rattle.spi_commands.specs.declared.status.Status.TheVariants.{Yes, No, Refused}
use Rattle.spi_commands.specs.Spelled.{SpellsDerivable, SpellsUnderivable, SpellsNone, IsSafe}
use Rattle.spi_commands.specs.Answers.{Answers}
use Rattle.spi_commands.specs.Refusals.{IsRefusal}
use Rattle.spi_commands.specs.NoLine.{IsNo}

-- yes, no, or a refusal
abbrev pub ChecksTo : List ℕ → Status → List ℕ → Type 0
ChecksTo bytes =
    Answers (λ output. SpellsDerivable bytes × (output ≡ codes "yes\n"))
    (λ output. SpellsUnderivable bytes × IsNo bytes output) (IsRefusal bytes)

-- `check` answers yes exactly where the file spells a process with a typing derivation of empty effect, no
-- exactly where it spells one without, and refused exactly where it spells none; the text of that answer is
-- what is appended; and after a yes, beside every opponent, along every run of every length, each end event
-- has an earlier begin event of its own with the same label.
pub record IsExact (bytes : List ℕ) (old new : Option (List ℕ)) (status : Status) : Type 0 where
  pub yes : (status ≡ Yes) ↔ SpellsDerivable bytes
  pub no : (status ≡ No) ↔ SpellsUnderivable bytes
  pub refused : (status ≡ Refused) ↔ SpellsNone bytes
  pub written : (output : List ℕ) × ChecksTo bytes status output × Appends old new output
  pub safe : status ≡ Yes → IsSafe bytes
