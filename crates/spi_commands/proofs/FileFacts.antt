-- What is known of bytes and of processes, as the laws say it.
use Rattle.std.proofs.Common.{◌≡◌, ℕ, ◌≤◌, List, [], Option, None, length, subst}
use Rattle.std.specs.List.{All}
use Rattle.spi_scope.specs.StandsFor.{Meant, StandsFor}
use Rattle.spi_term.specs.Term.{Process}
use Rattle.spi_rules.specs.Environment.{untrusted}
use Rattle.spi_rules.specs.Derivations.{RuleUse, Derivable}
use Rattle.spi_run.specs.Reduction.{Step}
use Rattle.spi_run.specs.Safety.{RobustlySafe, RobustlySafeMany}
use Rattle.spi_know.specs.Sent.{KeysStayUnknown}
use Rattle.spi_deriv.specs.Canonical.{Canonical}
use Rattle.spi_deriv.specs.Text.{derivation_text}
use Rattle.spi_show.specs.Files.{IsCanonicalText}
use Rattle.spi_show.specs.Steps.{schedule_text}
use Rattle.spi_spell.specs.Joined.{joined_texts, with_derivation, with_schedule, HasLowPlaces}
use Rattle.spi_commands.specs.Spelled.{limit, SpellsFile, IsDerivable, SpellsDerivable, SpellsUnderivable, SpellsNone}
use Rattle.spi_commands.specs.Refusals.{Refuses, IsRefusal}
use Rattle.spi_commands.proofs.FileRefusals.{OneLexing, OnePlaced, OneMeant, one_tree}
use Rattle.spi_commands.proofs.NarrateOnce.{NarrationFacts}

-- bytes spell one file at most
abbrev pub OneFile : Type 0
OneFile = (bytes : List ℕ) (f g : Meant) → SpellsFile bytes f → SpellsFile bytes g → f ≡ g

-- bytes that are refused spell no file
abbrev pub RefusedNone : Type 0
RefusedNone = (bytes : List ℕ) (number : ℕ) (offset : Option ℕ) (shown : List ℕ) → Refuses bytes number offset shown → SpellsNone bytes

-- a derivable process is safe
abbrev pub Safe : (ℕ → Process → Type 0) → Type 0
Safe P = (k : ℕ) (p : Process) → Derivable (untrusted k) p [] → P k p

-- a process has one canonical derivation at most
abbrev pub OneCanonical : Type 0
OneCanonical = (k : ℕ) (p : Process) (d e : List RuleUse) → Canonical d k p → Canonical e k p → d ≡ e

-- what is written behind a file is read with it
abbrev pub DerivationJoins : Type 0
DerivationJoins = (bytes : List ℕ) (file : Meant) (d : List RuleUse) → SpellsFile bytes file → file.derivation ≡ None → Canonical d file.process.names file.process.process → length (joined_texts bytes (derivation_text d)) ≤ limit → SpellsFile (joined_texts bytes (derivation_text d)) (with_derivation file d)

abbrev pub ScheduleJoins : Type 0
ScheduleJoins = (bytes : List ℕ) (file : Meant) (steps : List Step) → SpellsFile bytes file → file.schedule ≡ None → file.derivation ≡ None → length steps ≤ 10000 → All HasLowPlaces steps → length (joined_texts bytes (schedule_text steps)) ≤ limit → SpellsFile (joined_texts bytes (schedule_text steps)) (with_schedule file steps)

-- the canonical text of a file that bytes spell is read as that file
abbrev pub ReadsBack : Type 0
ReadsBack = (bytes text : List ℕ) (file : Meant) → SpellsFile bytes file → IsCanonicalText file text → length text ≤ limit → SpellsFile text file

-- all of it
pub record FileFacts : Type 0 where
  pub lexing : OneLexing
  pub none_of : RefusedNone
  pub one : OneFile
  pub safe : Safe RobustlySafe
  pub many : Safe RobustlySafeMany
  pub canonical : OneCanonical
  pub derivation : DerivationJoins
  pub schedule : ScheduleJoins
  pub reads : ReadsBack
  pub keys : Safe KeysStayUnknown
  pub narrations : NarrationFacts

-- bytes spell one file at most, since they have one tree, and it stands for one file at most
pub one_spelled : OneLexing → OnePlaced → OneMeant → OneFile
one_spelled lexing placed meant bytes f g (tree, is, stands) (other, that, means) =
    meant tree f g stands (subst (λ t. StandsFor t g) (one_tree lexing placed bytes other tree that is) means)

-- the line of a refusal is one of bytes that spell no file
pub refusal_none : RefusedNone → (bytes output : List ℕ) → IsRefusal bytes output → SpellsNone bytes
refusal_none none_of bytes output (r, refuses, line) = none_of bytes r.number r.offset r.shown.items refuses

-- no bytes are accepted and rejected
pub one_verdict : OneFile → (bytes : List ℕ) → SpellsDerivable bytes → SpellsUnderivable bytes → ⊥
one_verdict one bytes (f, spells, d) (g, other, none) = none (subst IsDerivable (one bytes f g spells other) d)

-- what holds of a derivable process holds of the file's
pub holds_after : (P : ℕ → Process → Type 0) → OneFile → Safe P → (bytes : List ℕ) → SpellsDerivable bytes → (f : Meant) → SpellsFile bytes f → P f.process.names f.process.process
holds_after P one safe bytes (g, spells, d) f other =
    subst (λ (f : Meant). P f.process.names f.process.process) (one bytes g f spells other) (safe g.process.names g.process.process d)
