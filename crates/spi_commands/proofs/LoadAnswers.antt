-- What `load` answers.
use Rattle.std.proofs.Common.{◌≡◌, ◌⊎◌, ℕ, ◌+◌, ◌*◌, ◌≤◌, List, [], length, sym, subst, ap, ap₂, ◌∙◌, ⊎_elim, Option, Some, None, IsSome, IfSome, ◌↔◌, refl}
use Rattle.spi_tree.specs.Trees as t
use Rattle.spi_gen.specs.Sessions.{IsSessions}
use Rattle.spi_rules.specs.Environment.{untrusted}
use Rattle.spi_rules.specs.Derivations.{RuleUse, Derivable}
use Rattle.spi_rules.specs.Deriv.{rule_uses}
use Rattle.spi_rules.specs.declared.deriv.Deriv.{Deriv}
use Rattle.spi_scope.specs.declared.fault.ScopeFault.{ScopeFault}
use Rattle.spi_scope.specs.declared.fault.ScopeFault.TheVariants.{NoMemory}
use Rattle.spi_scope.specs.Points.{in_order, file_points}
use Rattle.spi_scope.specs.First.{HasFirst}
use Rattle.spi_scope.specs.StandsFor.{Meant, StandsFor}
use Rattle.spi_scope.proofs.Firsts.{never_both}
use Rattle.spi_deriv.specs.Canonical.{Canonical}
use Rattle.spi_report.specs.Loaded.{loaded_text}
use Rattle.spi_commands.specs.Spelled.{IsDerivable}
use Rattle.spi_commands.specs.Loading.{IsLoaded}
use Rattle.spi_commands.proofs.AnswerNo.{none_derived}
use Rattle.spi_commands.proofs.LoadDerivations.{sessions_canonical, sessions_derivable}
use Rattle.spi_commands.proofs.LoadFiles.{sessions_clean, sessions_count, sessions_names, sessions_mean}
use Rattle.spi_commands.proofs.FileFacts.{OneCanonical}

-- the file of so many sessions has no fault
pub only_memory : (n : ℕ) (tree : t.File) (fault : ScopeFault) → n ≤ 500 → IsSessions n tree → (fault ≡ NoMemory) ⊎ HasFirst tree fault → fault ≡ NoMemory
only_memory n tree fault few is h = ⊎_elim (λ e. e) (λ f. absurd (never_both (in_order (file_points tree)) fault (sessions_clean few is) f)) h

derivable : (n : ℕ) (file : Meant) → (tree : t.File) × IsSessions n tree × StandsFor tree file → Derivable (untrusted file.process.names) file.process.process []
derivable n file (tree, is, stands) =
    subst (λ k. Derivable (untrusted k) file.process.process []) (sym (sessions_names is stands)) (sessions_derivable (sessions_mean is stands))

summary : OneCanonical → (n : ℕ) (file : Meant) (d : List RuleUse) (nodes rules : ℕ) (output : List ℕ) → n ≤ 500
    → (tree : t.File) × IsSessions n tree × StandsFor tree file → Canonical d file.process.names file.process.process
    → nodes ≡ 81 * n + 11 → rules ≡ length d → output ≡ loaded_text n nodes rules → IsLoaded n output
summary one n file d nodes rules output few (tree, is, stands) canonical counted long text =
    let (e, other, l) = sessions_canonical (sessions_mean is stands) in
    let same : d ≡ e = one 3 file.process.process d e (subst (λ k. Canonical d k file.process.process) (sessions_names is stands) canonical) other in
    (tree, file, d, is, stands, canonical, text ∙ ap₂ (λ a b. loaded_text n a b) (counted ∙ sym (sessions_count few is)) long, text ∙ ap₂ (λ a b. loaded_text n a b) counted (long ∙ ap length same ∙ l))

-- there is a derivation, since the process is derivable
pub summary_of : OneCanonical → (n : ℕ) (file : Meant) (o : Option Deriv) (nodes rules : ℕ) (output : List ℕ) → n ≤ 500
    → (tree : t.File) × IsSessions n tree × StandsFor tree file → IsSome o ↔ IsDerivable file
    → IfSome o (λ d. Canonical (rule_uses d) file.process.names file.process.process)
    → nodes ≡ 81 * n + 11 → IfSome o (λ d. rules ≡ length (rule_uses d)) → output ≡ loaded_text n nodes rules → IsLoaded n output
summary_of one n file None nodes rules output few is some canonical counted long text = absurd (none_derived {A = Deriv} None (IsDerivable file) refl some (derivable n file is))
summary_of one n file (Some d) nodes rules output few is some canonical counted long text =
    summary one n file (rule_uses d) nodes rules output few is canonical counted long text
