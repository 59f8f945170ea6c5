-- From the least effect to the answer.
use Rattle.std.proofs.Common.{◌≡◌, ℕ, List, [], ◌∷◌, refl, sym, ap, ◌∙◌, subst}
use Rattle.spi_term.specs.Term.{Effect, Process}
use Rattle.spi_term.specs.Lists.{in_first}
use Rattle.spi_term.specs.Spelling.{numbered}
use Rattle.spi_effect.specs.Effect.{Within}
use Rattle.spi_effect.proofs.Laws.{within_in}
use Rattle.spi_rules.specs.Environment.{untrusted}
use Rattle.spi_rules.specs.Derivations.{RuleUse, Derivable}
use Rattle.spi_rules.specs.Processes.{HasEffect}
use Rattle.spi_rules.specs.Least.{Least}
use Rattle.spi_rules.proofs.Paying.{has_pays}
use Rattle.spi_rules.proofs.Typing.{length_untrusted}
use Rattle.spi_deriv.specs.Canonical.{Canonical, IsCanonical}
use Rattle.spi_deriv.specs.Uses.{process_uses}
use Rattle.spi_deriv.proofs.Existing.{chosen}
use Rattle.spi_deriv.proofs.Spelled.{spelled_are}

-- what is within nothing is nothing
within_none : (es : Effect) → Within es [] → es ≡ []
within_none [] w = refl
within_none (a ∷ es) w = elim (within_in w in_first) [ ]

-- the least effect is empty exactly where the empty effect is derivable
pub empty_derivable : (k : ℕ) (p : Process) (es : Effect) → Least (untrusted k) p es → es ≡ [] → Derivable (untrusted k) p []
empty_derivable k p es l h = subst (λ es. Derivable (untrusted k) p es) h l.derivable

pub derivable_empty : (k : ℕ) (p : Process) (es : Effect) → Least (untrusted k) p es → Derivable (untrusted k) p [] → es ≡ []
derivable_empty k p es l d = within_none es (l.least [] d)

-- the canonical derivation
canonical_of : {k : ℕ} {p : Process} → Derivable (untrusted k) p [] → (es : Effect) → es ≡ [] → (d : HasEffect [] (untrusted k) p es) → IsCanonical d → Canonical (process_uses (numbered [] k p) (untrusted k)) k p
canonical_of {k} {p} h es q d c =
    let P : (es : Effect) → Type 0 = λ es. (d : HasEffect [] (untrusted k) p es) × IsCanonical d in
    let w = subst P q (d, c) in
    record {
      over = h.over;
      has = w.0;
      canonical = w.1;
      are = spelled_are (untrusted k) refl w.0 w.1 ∙ ap (λ n. process_uses (numbered [] n p) (untrusted k)) (length_untrusted k);
    }

pub derived : (k : ℕ) (p : Process) (us : List RuleUse) → Derivable (untrusted k) p [] → us ≡ process_uses (numbered [] k p) (untrusted k) → Canonical us k p
derived k p us h u =
    let (es, d, w, c) = chosen (has_pays h.has) in
    subst (λ us. Canonical us k p) (sym u) (canonical_of h es (within_none es w) d c)
