-- What `derive` promises.
use Rattle.std.proofs.Common.{◌≡◌, ℕ, ◌<◌, ◌≤◌, List, [], Option, None, refl, sym, ap, ◌∙◌, subst, inl, inr, length, arith}
use Rattle.std.specs.Io.KnownBytes.{Appends}
use Rattle.spi_scope.specs.StandsFor.{Meant}
use Rattle.spi_term.specs.Term.{Process}
use Rattle.spi_rules.specs.Environment.{untrusted}
use Rattle.spi_effect.proofs.Laws.{same_refl}
use Rattle.spi_rules.specs.Derivations.{RuleUse, Derivable, Proves}
use Rattle.spi_deriv.specs.Canonical.{Canonical}
use Rattle.spi_deriv.specs.Text.{derivation_text}
use Rattle.spi_spell.specs.Joined.{joined_texts, with_derivation}
use Rattle.spi_commands.specs.declared.status.Status.{Status}
use Rattle.spi_commands.specs.declared.status.Status.TheVariants.{Yes, No, Refused, ReadFault, WriteFault, NoMemory, Usage}
use Rattle.spi_commands.specs.Spelled.{limit, SpellsFile, SpellsUnderivable, SpellsNone, IsDerivable, SpellsProved, SpellsUnderived}
use Rattle.spi_commands.specs.Deriving.{SpellsCanonical, IsListing, SpellsLongListing, listing_length, DerivesTo, IsDerived}
use Rattle.spi_commands.proofs.FileFacts.{OneFile, RefusedNone, OneCanonical, DerivationJoins}
use Rattle.spi_commands.proofs.AnswerLines.{more_than}

canonical_derivable : (d : List RuleUse) (k : ℕ) (p : Process) → Canonical d k p → Derivable (untrusted k) p []
canonical_derivable d k p c = record { over = c.over; has = c.has }

canonical_proves : (d : List RuleUse) (k : ℕ) (p : Process) → Canonical d k p → Proves d (untrusted k) p []
canonical_proves d k p c = record { over = c.over; effect = []; same = same_refl []; has = c.has; are = c.are }

module _ (one : OneFile) (bytes : List ℕ) where
  -- a canonical derivation and none
  never_canonical : (d : List RuleUse) → SpellsCanonical bytes d → SpellsUnderivable bytes → ⊥
  never_canonical d (f, spells, c) (g, other, none) =
      none (subst IsDerivable (one bytes f g spells other) (canonical_derivable d f.process.names f.process.process c))

  same_canonical : OneCanonical → (d e : List RuleUse) → SpellsCanonical bytes d → SpellsCanonical bytes e → d ≡ e
  same_canonical same d e (f, spells, c) (g, other, h) =
      same g.process.names g.process.process d e (subst (λ (f : Meant). Canonical d f.process.names f.process.process) (one bytes f g spells other) c) h

  never_long : OneCanonical → (output : List ℕ) → IsListing bytes output → SpellsLongListing bytes → ⊥
  never_long same output (d, spells, text, short) (e, others, long) =
      let equal : output ≡ derivation_text e = text ∙ ap derivation_text (same_canonical same d e spells others) in
      let short' : length (joined_texts bytes (derivation_text e)) ≤ limit = subst (λ t. length (joined_texts bytes t) ≤ limit) equal short in
      absurd (omega (arith, short', long))

  -- a listing behind its file is a proof
  joined_proves : DerivationJoins → (output : List ℕ) → IsListing bytes output → SpellsUnderived bytes → SpellsProved (joined_texts bytes output)
  joined_proves joins output (d, (f, spells, c), text, short) (g, other, none) =
      let missing : f.derivation ≡ None = subst (λ (f : Meant). f.derivation ≡ None) (sym (one bytes f g spells other)) none in
      let whole : SpellsFile (joined_texts bytes (derivation_text d)) (with_derivation f d) = joins bytes f d spells missing c (subst (λ t. length (joined_texts bytes t) ≤ limit) text short) in
      subst (λ t. SpellsProved (joined_texts bytes t)) (sym text) (with_derivation f d, d, whole, refl, canonical_proves d f.process.names f.process.process c)

  -- the answers of `derive`
  pub derives : RefusedNone → OneCanonical → DerivationJoins → (old new : Option (List ℕ)) (output : List ℕ) (status : Status) → DerivesTo bytes status output → Appends old new output → IsDerived bytes old new status
  derives none_of same joins old new output Yes is put = record {
    yes = (λ e. (output, is), λ a. refl);
    no = (λ e. absurd (cc), λ r. absurd (never_canonical is.0 is.1 r));
    refused = (λ e. absurd (cc), λ r. absurd (elim r [ inl none ↦ none is.1.0 is.1.1 | inr long ↦ never_long same output is long ]));
    joins = λ e derived. (output, put, joined_proves joins output is derived);
  }
  derives none_of same joins old new output No is put = record {
    yes = (λ e. absurd (cc), λ a. absurd (never_canonical a.1.0 a.1.1 is.0));
    no = (λ e. is.0, λ r. refl);
    refused = (λ e. absurd (cc), λ r. absurd (elim r [ inl none ↦ none is.0.0 is.0.1 | inr long ↦ never_canonical long.0 long.1 is.0 ]));
    joins = λ e derived. absurd (cc);
  }
  derives none_of same joins old new output Refused (r, inl refuses, line) put =
      let none : SpellsNone bytes = none_of bytes r.number r.offset r.shown.items refuses in record {
        yes = (λ e. absurd (cc), λ a. absurd (none a.1.1.0 a.1.1.1));
        no = (λ e. absurd (cc), λ r. absurd (none r.0 r.1));
        refused = (λ e. inl none, λ r. refl);
        joins = λ e derived. absurd (cc);
      }
  derives none_of same joins old new output Refused (r, inr (d, spells, much), line) put =
      let long : limit < listing_length bytes d = more_than much in record {
        yes = (λ e. absurd (cc), λ a. absurd (never_long same a.0 a.1 (d, spells, long)));
        no = (λ e. absurd (cc), λ r. absurd (never_canonical d spells r));
        refused = (λ e. inr (d, spells, long), λ r. refl);
        joins = λ e derived. absurd (cc);
      }
  derives none_of same joins old new output ReadFault is put = absurd is
  derives none_of same joins old new output WriteFault is put = absurd is
  derives none_of same joins old new output NoMemory is put = absurd is
  derives none_of same joins old new output Usage is put = absurd is
