-- What `verify` answers and promises.
use Rattle.std.specs.Prelude.{◌≡◌, ◌↔◌, ◌⊎◌, ℕ, List, codes, Some}
use Rattle.std.specs.declared.option.Option.{Option}
use Rattle.spi_text.specs.declared.lines.Span.{Span}
use Rattle.spi_tree.specs.Trees.{File}
use Rattle.spi_term.specs.Term.{Effect}
use Rattle.spi_rules.specs.Environment.{untrusted}
use Rattle.spi_rules.specs.Derivations.{RuleUse}
use Rattle.spi_scope.specs.StandsFor.{Meant, StandsFor}
use Rattle.spi_scope.specs.Files.{rule_places}
use Rattle.spi_scope.specs.Places.{place_in}
use Rattle.spi_audit.specs.Audit.{IsWrongAt, LeavesUnpaid}
use Rattle.spi_fault.specs.Faults.{ToldFault, IsUnpaid}
use Rattle.spi_report.specs.Fault.{fault_text}
use Rattle.spi_report.specs.Wrong.{wrong_text}
use Rattle.spi_commands.specs.declared.status.Status.{Status}
use Rattle.spi_commands.specs.declared.status.Status.TheVariants.{Yes, No, Refused}
use Rattle.spi_commands.specs.Spelled.{IsTreeOf, SpellsNone, SpellsProved, SpellsUnproved, SpellsUnderived, IsSafe, IsManySafe}
use Rattle.spi_commands.specs.Answers.{Answers}
use Rattle.spi_commands.specs.Refusals.{layered, IsLineOf, Refuses, IsMissing}
use Rattle.spi_commands.specs.NoLine.{place_at, spelled_at}

-- where rule use number i of a tree's derivation stands
abbrev pub rule_at : File → ℕ → Span
rule_at tree i = place_in (rule_places tree.derivation) i

-- the text is the line of the first wrong use, or of what the derivation leaves unpaid
abbrev pub IsWrongLine : List ℕ → File → Meant → List RuleUse → List ℕ → Type 0
IsWrongLine bytes tree file d output =
    (i : ℕ) × IsWrongAt (untrusted file.process.names) file.process.process d i
    × (output ≡ wrong_text bytes (rule_at tree i) i)

abbrev pub IsUnpaidLine : List ℕ → File → Meant → List RuleUse → List ℕ → Type 0
IsUnpaidLine bytes tree file d output =
    (es : Effect) × (fault : ToldFault)
    × LeavesUnpaid (untrusted file.process.names) file.process.process d es
    × IsUnpaid (spelled_at tree) es fault
    × (output ≡ fault_text bytes (place_at tree) (spelled_at tree) fault)

abbrev pub IsUnprovedLine : List ℕ → List ℕ → Type 0
IsUnprovedLine bytes output =
    (tree : File) × (file : Meant) × (d : List RuleUse) × IsTreeOf bytes tree × StandsFor tree file
    × (file.derivation ≡ Some d)
    × (IsWrongLine bytes tree file d output ⊎ IsUnpaidLine bytes tree file d output)

-- the file has no derivation
abbrev pub LacksDerivation : List ℕ → ℕ → Option ℕ → List ℕ → Type 0
LacksDerivation bytes number offset shown = SpellsUnderived bytes
    × IsMissing (codes "derivation") number offset shown

-- yes, no, or a refusal
abbrev pub VerifiesTo : List ℕ → Status → List ℕ → Type 0
VerifiesTo bytes =
    Answers (λ output. SpellsProved bytes × (output ≡ codes "yes\n"))
    (λ output. SpellsUnproved bytes × IsUnprovedLine bytes output)
    (IsLineOf bytes (layered (Refuses bytes) (LacksDerivation bytes)))

-- `verify` answers yes exactly where the file's derivation proves that its process has the empty effect, no exactly where it
-- doesn't, and refused where the file is none or has no derivation; and after a yes the process is robustly safe.
pub record IsVerified (bytes : List ℕ) (status : Status) : Type 0 where
  pub yes : (status ≡ Yes) ↔ SpellsProved bytes
  pub no : (status ≡ No) ↔ SpellsUnproved bytes
  pub refused : (status ≡ Refused) ↔ (SpellsNone bytes ⊎ SpellsUnderived bytes)
  pub safe : status ≡ Yes → IsSafe bytes
  pub many_to_one : status ≡ Yes → IsManySafe bytes
