-- What `derive` answers on a file.
use Rattle.std.proofs.Common.{◌≡◌, ℕ, List, ◌∙◌, subst, length, Result, Ok, Err, IfOk, inr}
use Rattle.spi_scope.specs.declared.file.File.{File}
use Rattle.spi_scope.specs.Files.{meant}
use Rattle.spi_rules.specs.Derivations.{RuleUse}
use Rattle.spi_deriv.specs.Canonical.{Canonical}
use Rattle.spi_deriv.specs.Text.{derivation_text}
use Rattle.spi_spell.specs.Joined.{joined_texts}
use Rattle.spi_commands.specs.declared.answer.Answer.{Answer}
use Rattle.spi_commands.specs.declared.answer.Stop.{Stop}
use Rattle.spi_commands.specs.declared.status.Status.{Status}
use Rattle.spi_commands.specs.declared.status.Status.TheVariants.{Yes, No, Refused, ReadFault, WriteFault, NoMemory, Usage}
use Rattle.spi_commands.specs.Spelled.{IsDerivable}
use Rattle.spi_commands.specs.Refusals.{layered, Refuses, IsTooMuch, FitsBehind}
use Rattle.spi_commands.specs.NoLine.{IsVerdict}
use Rattle.spi_commands.specs.Deriving.{SpellsCanonical, HasLongListing, DerivesTo}
use Rattle.spi_commands.specs.Reading.{IsRead}
use Rattle.spi_commands.proofs.AnswerLines.{line_map}

spelled : (bytes : List ℕ) (f : File) (us : List RuleUse) → IsRead bytes f → Canonical us f.process.names f.process.process → SpellsCanonical bytes us
spelled bytes f us (tree, is, stands, marks) c = (meant f, (tree, is, stands), c)

-- a listing, or one that is too long
listed : (bytes text output : List ℕ) (f : File) (us : List RuleUse) (status : Status) → IsRead bytes f → Canonical us f.process.names f.process.process → text ≡ derivation_text us → FitsBehind bytes text status output → DerivesTo bytes status output
listed bytes text output f us Yes r c e h = (us, spelled bytes f us r c, h.0 ∙ e, h.1)
listed bytes text output f us No r c e h = absurd h
listed bytes text output f us Refused r c e h =
    line_map bytes output (IsTooMuch (length (joined_texts bytes text))) (layered (Refuses bytes) (HasLongListing bytes)) (λ n o s x. inr (us, spelled bytes f us r c, subst (λ (t : List ℕ). IsTooMuch (length (joined_texts bytes t)) n o s) e x)) h
listed bytes text output f us ReadFault r c e h = absurd h
listed bytes text output f us WriteFault r c e h = absurd h
listed bytes text output f us NoMemory r c e h = absurd h
listed bytes text output f us Usage r c e h = absurd h

pub listing : (bytes text : List ℕ) (f : File) (us : List RuleUse) (result : Result Answer Stop) → IsRead bytes f → Canonical us f.process.names f.process.process → text ≡ derivation_text us → IfOk result (λ a. FitsBehind bytes text a.status a.output.items) → IfOk result (λ a. DerivesTo bytes a.status a.output.items)
listing bytes text f us (Ok a) r c e h = listed bytes text a.output.items f us a.status r c e h
listing bytes text f us (Err s) r c e h = tt

-- a no
refused_by : (bytes output : List ℕ) (f : File) (status : Status) → IsRead bytes f → (IsDerivable (meant f) → ⊥) → IsVerdict bytes (meant f) status output → DerivesTo bytes status output
refused_by bytes output f Yes r none h = absurd (none h.0)
refused_by bytes output f No (tree, is, stands, marks) none h = ((meant f, (tree, is, stands), none), h.1)
refused_by bytes output f Refused r none h = elim h [ ]
refused_by bytes output f ReadFault r none h = elim h [ ]
refused_by bytes output f WriteFault r none h = elim h [ ]
refused_by bytes output f NoMemory r none h = elim h [ ]
refused_by bytes output f Usage r none h = elim h [ ]

pub refused : (bytes : List ℕ) (f : File) (result : Result Answer Stop) → IsRead bytes f → (IsDerivable (meant f) → ⊥) → IfOk result (λ a. IsVerdict bytes (meant f) a.status a.output.items) → IfOk result (λ a. DerivesTo bytes a.status a.output.items)
refused bytes f (Ok a) r none h = refused_by bytes a.output.items f a.status r none h
refused bytes f (Err e) r none h = tt
