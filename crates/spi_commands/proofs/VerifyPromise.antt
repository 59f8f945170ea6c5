-- What `verify` promises.
use Rattle.std.proofs.Common.{◌≡◌, ℕ, List, None, Some, refl, sym, ◌∙◌, subst, inl, inr}
use Rattle.spi_scope.specs.StandsFor.{Meant}
use Rattle.spi_rules.proofs.Counted.{has_counts}
use Rattle.spi_rules.specs.Derivations.{RuleUse}
use Rattle.spi_run.specs.Safety.{RobustlySafe, RobustlySafeMany}
use Rattle.spi_commands.specs.declared.status.Status.{Status}
use Rattle.spi_commands.specs.declared.status.Status.TheVariants.{Yes, No, Refused, ReadFault, WriteFault, NoMemory, Usage}
use Rattle.spi_commands.specs.Spelled.{SpellsFile, SpellsDerivable, SpellsNone, IsProved, SpellsProved, SpellsUnproved, SpellsUnderived}
use Rattle.spi_commands.specs.Verifying.{VerifiesTo, IsVerified}
use Rattle.spi_commands.proofs.FileFacts.{OneFile, RefusedNone, Safe, holds_after}

module _ (one : OneFile) (bytes : List ℕ) where
  never_proved : SpellsProved bytes → SpellsUnproved bytes → ⊥
  never_proved (f, d, spells, is, p) (g, e, other, own, none) =
      let same : f ≡ g = one bytes f g spells other in
      let equal : Some d ≡ Some e = sym (subst (λ (f : Meant). f.derivation ≡ Some d) same is) ∙ own in
      none (subst (λ v. IsProved g v) (let d' : d ≡ e = (let x = equal in cc) in d') (subst (λ (f : Meant). IsProved f d) same p))

  never_underived : (d : List RuleUse) (f : Meant) → SpellsFile bytes f → f.derivation ≡ Some d → SpellsUnderived bytes → ⊥
  never_underived d f spells is (g, other, none) =
      let equal : Some d ≡ None = sym (subst (λ (f : Meant). f.derivation ≡ Some d) (one bytes f g spells other) is) ∙ none in
      absurd (let x = equal in cc)

  -- what a proof derives
  proved_derivable : SpellsProved bytes → SpellsDerivable bytes
  proved_derivable (f, d, spells, is, p) = (f, spells, record { over = p.over; has = has_counts p.same p.has })

  -- the answers of `verify`
  pub verifies : RefusedNone → Safe RobustlySafe → Safe RobustlySafeMany → (output : List ℕ) (status : Status) → VerifiesTo bytes status output → IsVerified bytes status
  verifies none_of safe many output Yes is = record {
    yes = (λ e. is.0, λ p. refl);
    no = (λ e. absurd (cc), λ r. absurd (never_proved is.0 r));
    refused = (λ e. absurd (cc), λ r. absurd (elim r [ inl none ↦ none is.0.0 is.0.2 | inr derived ↦ never_underived is.0.1 is.0.0 is.0.2 is.0.3 derived ]));
    safe = λ e. holds_after RobustlySafe one safe bytes (proved_derivable is.0);
    many_to_one = λ e. holds_after RobustlySafeMany one many bytes (proved_derivable is.0);
  }
  verifies none_of safe many output No is = record {
    yes = (λ e. absurd (cc), λ p. absurd (never_proved p is.0));
    no = (λ e. is.0, λ r. refl);
    refused = (λ e. absurd (cc), λ r. absurd (elim r [ inl none ↦ none is.0.0 is.0.2 | inr derived ↦ never_underived is.0.1 is.0.0 is.0.2 is.0.3 derived ]));
    safe = λ e. absurd (cc);
    many_to_one = λ e. absurd (cc);
  }
  verifies none_of safe many output Refused (r, inl refuses, line) =
      let none : SpellsNone bytes = none_of bytes r.number r.offset r.shown.items refuses in record {
        yes = (λ e. absurd (cc), λ p. absurd (none p.0 p.2));
        no = (λ e. absurd (cc), λ r. absurd (none r.0 r.2));
        refused = (λ e. inl none, λ r. refl);
        safe = λ e. absurd (cc);
        many_to_one = λ e. absurd (cc);
      }
  verifies none_of safe many output Refused (r, inr (derived, lack), line) = record {
    yes = (λ e. absurd (cc), λ p. absurd (never_underived p.1 p.0 p.2 p.3 derived));
    no = (λ e. absurd (cc), λ r. absurd (never_underived r.1 r.0 r.2 r.3 derived));
    refused = (λ e. inr derived, λ r. refl);
    safe = λ e. absurd (cc);
    many_to_one = λ e. absurd (cc);
  }
  verifies none_of safe many output ReadFault is = absurd is
  verifies none_of safe many output WriteFault is = absurd is
  verifies none_of safe many output NoMemory is = absurd is
  verifies none_of safe many output Usage is = absurd is
