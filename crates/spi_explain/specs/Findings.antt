-- What is found of a file's process.
use Rattle.std.specs.Prelude.{◌≡◌, ℕ, List, [], codes, Option, Some, None}
use Rattle.spi_fault.specs.Faults.{told}
use Rattle.spi_fault.specs.declared.fault.Fault.{Fault}
use Rattle.spi_fault.specs.declared.fault.Shown.{Shown}
use Rattle.spi_fault.specs.declared.fault.Shown.TheVariants as S
use Rattle.spi_origin.specs.Listing.{AreAll}
use Rattle.spi_origin.specs.Origins.{IsOriginIn}
use Rattle.spi_report.specs.Fault.{fault_text}
use Rattle.spi_term.specs.Term.{Process}
use Rattle.spi_term.specs.View.{atom}
use Rattle.spi_text.specs.declared.lines.Span.{Span}

-- the line of a yes, or that of the fault
abbrev pub finding_line : List ℕ → (ℕ → Span) → (ℕ → List (List ℕ)) → Option Fault → List ℕ
finding_line bytes place spelled None = codes "yes\n"
finding_line bytes place spelled (Some f) = fault_text bytes place spelled (told f)

-- the origins of the atom that is shown, in the effect in which it stands, and none where no atom is shown
abbrev pub AreShownOrigins : ℕ → Process → ℕ → Option Shown → List ℕ → Type 0
AreShownOrigins k p node None is = is ≡ []
AreShownOrigins k p node (Some (S.Message m)) is = is ≡ []
AreShownOrigins k p node (Some (S.Atom a)) is = AreAll (IsOriginIn k p node (atom a)) is

abbrev pub AreOrigins : ℕ → Process → Option Fault → List ℕ → Type 0
AreOrigins k p None is = is ≡ []
AreOrigins k p (Some f) is = AreShownOrigins k p f.scope_of f.shown is
