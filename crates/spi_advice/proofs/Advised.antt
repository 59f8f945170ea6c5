-- An explanation begins with what `check` answers.
use Rattle.std.proofs.Common.{◌≡◌, ◌↔◌, ◌<◌, ℕ, List, [], ◌++◌, length, sym, subst, Option, Some, None, refl, Result, Ok, Err, IfOk, IsNone, inl}
use Rattle.spi_advice.specs.Advising.{Advises, verdict}
use Rattle.spi_advice.specs.declared.advice.Advice.{Advice}
use Rattle.std.specs.Global.{Vec}
use Rattle.spi_report.specs.declared.refusal.Refusal.{Refusal}
use Rattle.spi_report.specs.Refused.{refused_text}
use Rattle.spi_commands.specs.Checking.{ChecksTo}
use Rattle.spi_commands.specs.Reading.{IsRead}
use Rattle.spi_commands.specs.Refusals.{IsRefusal, IsLineOf, IsUnlexed, Refuses}
use Rattle.spi_commands.specs.declared.status.Status.{Status}
use Rattle.spi_commands.specs.declared.status.Status.TheVariants.{Refused}
use Rattle.spi_commands.proofs.AnswerNo.{place_told, names_told, no_line, none_derivable}
use Rattle.spi_explain.specs.Findings.{finding_line}
use Rattle.spi_fault.proofs.Blaming.{exactly}
use Rattle.spi_fault.specs.Faults.{Explains, told}
use Rattle.spi_fault.specs.declared.fault.Fault.{Fault}
use Rattle.spi_rules.specs.Derivations.{Derivable}
use Rattle.spi_rules.specs.Environment.{untrusted}
use Rattle.spi_scope.specs.Files.{meant, marked}
use Rattle.spi_scope.specs.declared.file.File.{File}

pub file_checks : (bytes line : List ℕ) (f : File) (fault : Option Fault) → IsRead bytes f
    → line ≡ finding_line bytes (place_told (marked f)) (names_told (marked f)) fault
    → Explains (names_told (marked f)) f.process.names f.process.process fault → ChecksTo bytes (verdict fault) line
file_checks bytes line f None (tree, is, stands, marks) e d = ((meant f, (tree, is, stands), d), e)
file_checks bytes line f (Some fault) (tree, is, stands, marks) e h =
    let o : Result (Option Fault) ℕ = Ok (Some fault) in
    let exact : IsNone (Some fault) ↔ Derivable (untrusted f.process.names) f.process.process [] =
    exactly (names_told (marked f)) f.process.names f.process.process o h in (
      (meant f, (tree, is, stands), none_derivable (Some fault) fault _ refl exact),
      no_line bytes line f (told fault) (tree, is, stands, marks) h e,
    )

pub advised : {E : Type 0} (bytes line rest : List ℕ) (s : Status) (result : Result Advice E) → ChecksTo bytes s line
    → IfOk result (λ a. (a.status ≡ s) × (a.output.items ≡ line ++ rest))
    → IfOk result (λ a. Advises bytes a.status a.output.items)
advised bytes line rest s (Ok a) h w = (line, rest, subst (λ t. ChecksTo bytes t line) (sym w.0) h, w.1)
advised bytes line rest s (Err e) h w = tt

-- the line of a refusal
pub line_told : {E : Type 0} (bytes : List ℕ) (r : Refusal) (result : Result (Vec ℕ) E) → Refuses bytes r.number r.offset r.shown.items
    → IfOk result (λ text. text.items ≡ refused_text bytes r) → IfOk result (λ line. IsLineOf bytes (Refuses bytes) line.items)
line_told bytes r (Ok line) is h = (r, is, h)
line_told bytes r (Err e) is h = tt

-- more bytes than a file may have
pub advised_long : {E : Type 0} (line rest : List ℕ) (result : Result Advice E)
    → ((bytes : List ℕ) → 16777216 < length bytes → IsLineOf bytes (IsUnlexed bytes) line)
    → IfOk result (λ a. (a.status ≡ Refused) × (a.output.items ≡ line ++ rest))
    → IfOk result (λ a. (bytes : List ℕ) → 16777216 < length bytes → Advises bytes a.status a.output.items)
advised_long line rest (Ok a) h w = λ bytes l.
    let r = h bytes l in
    let is : IsRefusal bytes line = (r.0, inl r.1, r.2) in
    (line, rest, subst (λ t. ChecksTo bytes t line) (sym w.0) is, w.1)
advised_long line rest (Err e) h w = tt
