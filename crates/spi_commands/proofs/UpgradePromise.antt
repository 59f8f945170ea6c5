-- What `upgrade` promises.
use Rattle.std.proofs.Common.{◌≡◌, ℕ, List, [], Option, Some, None, sym, subst}
use Rattle.std.specs.Io.KnownBytes.{Appends}
use Rattle.spi_term.specs.Spelling.{Spelling}
use Rattle.spi_rules.specs.Environment.{untrusted}
use Rattle.spi_rules.specs.Derivations.{RuleUse, Derivable, Proves}
use Rattle.spi_scope.specs.StandsFor.{Meant}
use Rattle.spi_commands.specs.declared.status.Status.{Status}
use Rattle.spi_commands.specs.Spelled.{SpellsFile}
use Rattle.spi_commands.specs.Refusals.{layered, Refuses}
use Rattle.spi_commands.specs.Canonical.{IsPrint}
use Rattle.spi_commands.specs.Upgrading.{IsUpgrade, SpellsUpgrade, SpellsLongUpgrade, RefusesUpgrade, UpgradesTo, HaveSameAnswers, IsUpgraded}
use Rattle.spi_commands.proofs.FileFacts.{OneFile, RefusedNone}
use Rattle.spi_commands.proofs.AnswerLines.{text_or_refused, accepted_at}
use Rattle.spi_commands.proofs.AnswerText.{never_longer, long_of}
use Rattle.spi_commands.proofs.UpgradeParts.{one_upgrade, upgrade_keeps, ReadsUpgrade}

abbrev DerivableSpelling : Spelling → Type 0
DerivableSpelling p = Derivable (untrusted p.names) p.process []

abbrev ProvedSpelling : Spelling → List RuleUse → Type 0
ProvedSpelling p d = Proves d (untrusted p.names) p.process []

module _ (one : OneFile) (none_of : RefusedNone) (bytes : List ℕ) where
  never_long : (output : List ℕ) → SpellsUpgrade bytes output → SpellsLongUpgrade bytes → ⊥
  never_long output (f, up, spells, is, shown) (g, new, other, that, long) =
      let same : up ≡ new = one_upgrade g up new (subst (λ (f : Meant). IsUpgrade f up) (one bytes f g spells other) is) that in
      never_longer new output (subst (λ (f : Meant). IsPrint f output) same shown) long

  -- two texts of files with the same process and the same derivation have the same answers
  same_answers : (output : List ℕ) (file upgraded : Meant) → SpellsFile bytes file → SpellsFile output upgraded → upgraded.process ≡ file.process → upgraded.derivation ≡ file.derivation → HaveSameAnswers bytes output
  same_answers output file upgraded spells other p d =
      let own : (f : Meant) → SpellsFile bytes f → f ≡ file = λ f s. one bytes f file s spells in
      let that : (f : Meant) → SpellsFile output f → f ≡ upgraded = λ f s. one output f upgraded s other in
      let here : (P : Spelling → Option (List RuleUse) → Type 0) → (x : Meant) → SpellsFile bytes x → P x.process x.derivation → P upgraded.process upgraded.derivation =
      λ P x s h. subst (λ (q : Spelling). P q upgraded.derivation) (sym p) (subst (λ (e : Option (List RuleUse)). P file.process e) (sym d) (subst (λ (f : Meant). P f.process f.derivation) (own x s) h)) in
      let there : (P : Spelling → Option (List RuleUse) → Type 0) → (x : Meant) → SpellsFile output x → P x.process x.derivation → P file.process file.derivation =
      λ P x s h. subst (λ (q : Spelling). P q file.derivation) p (subst (λ (e : Option (List RuleUse)). P upgraded.process e) d (subst (λ (f : Meant). P f.process f.derivation) (that x s) h)) in
      record {
        derivable = (λ a. (upgraded, other, here (λ q e. DerivableSpelling q) a.0 a.1 a.2), λ a. (file, spells, there (λ q e. DerivableSpelling q) a.0 a.1 a.2));
        underivable = (λ a. (upgraded, other, here (λ q e. ¬ DerivableSpelling q) a.0 a.1 a.2), λ a. (file, spells, there (λ q e. ¬ DerivableSpelling q) a.0 a.1 a.2));
        proved = (λ a. (upgraded, a.1, other, here (λ q e. e ≡ Some a.1) a.0 a.2 a.3, here (λ q e. ProvedSpelling q a.1) a.0 a.2 a.4), λ a. (file, a.1, spells, there (λ q e. e ≡ Some a.1) a.0 a.2 a.3, there (λ q e. ProvedSpelling q a.1) a.0 a.2 a.4));
        unproved = (λ a. (upgraded, a.1, other, here (λ q e. e ≡ Some a.1) a.0 a.2 a.3, here (λ q e. ¬ ProvedSpelling q a.1) a.0 a.2 a.4), λ a. (file, a.1, spells, there (λ q e. e ≡ Some a.1) a.0 a.2 a.3, there (λ q e. ¬ ProvedSpelling q a.1) a.0 a.2 a.4));
        underived = (λ a. (upgraded, other, here (λ q e. e ≡ None) a.0 a.1 a.2), λ a. (file, spells, there (λ q e. e ≡ None) a.0 a.1 a.2));
      }

  pub upgrades : ReadsUpgrade → (old new : Option (List ℕ)) (output : List ℕ) (status : Status) → UpgradesTo bytes status output → Appends old new output → IsUpgraded bytes old new status
  upgrades reads old new output status is put =
      let exactly = text_or_refused bytes (SpellsUpgrade bytes) (RefusesUpgrade bytes) (SpellsLongUpgrade bytes) (none_of bytes) (λ n o s why. (why.0, why.1, why.2, why.3, long_of why.1 why.4)) (λ output given none. none given.0 given.2) never_long output status is in
      record {
        yes = exactly.yes;
        refused = exactly.refused;
        reads_back = λ e file spells.
            let (f, up, own, upgrade, printed) = accepted_at bytes (SpellsUpgrade bytes) (layered (Refuses bytes) (RefusesUpgrade bytes)) output status is e in
            let made : IsUpgrade file up = subst (λ (f : Meant). IsUpgrade f up) (one bytes f file own spells) upgrade in
            let whole : SpellsFile output up = reads bytes output file up spells made printed.0 printed.1 in
            let kept = upgrade_keeps file up made in
            (output, up, put, made, printed, whole, same_answers output file up spells whole kept.0 kept.1);
      }
