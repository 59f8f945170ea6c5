-- Each tree stands for one file or has one first fault.
use Rattle.std.proofs.Common.{◌≡◌, ℕ, List, [], reverse, refl, sym, ap, ◌∙◌, inl, inr, ⊎_elim}
use Rattle.std.specs.Prelude.{◌⊎◌, Option}
use Rattle.spi_tree.specs.Trees as t
use Rattle.spi_term.specs.Spelling.{Spelling}
use Rattle.spi_run.specs.Reduction.{Step}
use Rattle.spi_rules.specs.Derivations.{RuleUse}
use Rattle.spi_scope.specs.declared.fault.ScopeFault.{ScopeFault}
use Rattle.spi_scope.specs.Points.{in_order, file_points, all_names, all_types}
use Rattle.spi_scope.specs.First.{HasFirst}
use Rattle.spi_scope.specs.StandsFor.{Meant, StandsFor, over_free, opponent_over, schedule_in, derivation_in}
use Rattle.spi_scope.proofs.Firsts.{one_of, never_both, one_first}

abbrev pub file_meant : t.File → Meant
file_meant tree = record {
  version = tree.version;
  names = reverse (all_names [] tree.decls);
  process = over_free (all_types [] [] tree.decls) (all_names [] tree.decls) tree.process;
  opponent = opponent_over (all_types [] [] tree.decls) (all_names [] tree.decls) tree.opponent;
  schedule = schedule_in tree.schedule;
  derivation = derivation_in tree.derivation;
}

pub one_of_both : (tree : t.File) → ((file : Meant) × StandsFor tree file) ⊎ ((f : ScopeFault) × HasFirst tree f)
one_of_both tree =
    ⊎_elim (λ h. inl (file_meant tree, record { clean = h; version = refl; names = refl; process = refl; opponent = refl; schedule = refl; derivation = refl })) (λ h. inr h) (one_of (in_order (file_points tree)))

pub not_both : (tree : t.File) (file : Meant) (f : ScopeFault) → StandsFor tree file → HasFirst tree f → ⊥
not_both tree file f s h = never_both (in_order (file_points tree)) f s.clean h

abbrev made_file : ℕ → List (List ℕ) → Spelling → Option Spelling → Option (List Step) → Option (List RuleUse) → Meant
made_file v xs p o s d = record { version = v; names = xs; process = p; opponent = o; schedule = s; derivation = d }

is_meant : (tree : t.File) (file : Meant) → StandsFor tree file → file ≡ file_meant tree
is_meant tree file s =
    let m = file_meant tree in
    ap (λ v. made_file v file.names file.process file.opponent file.schedule file.derivation) s.version
    ∙ ap (λ xs. made_file m.version xs file.process file.opponent file.schedule file.derivation) s.names
    ∙ ap (λ p. made_file m.version m.names p file.opponent file.schedule file.derivation) s.process
    ∙ ap (λ o. made_file m.version m.names m.process o file.schedule file.derivation) s.opponent
    ∙ ap (λ x. made_file m.version m.names m.process m.opponent x file.derivation) s.schedule
    ∙ ap (λ d. made_file m.version m.names m.process m.opponent m.schedule d) s.derivation

pub same_file : (tree : t.File) (file other : Meant) → StandsFor tree file → StandsFor tree other → file ≡ other
same_file tree file other s r = is_meant tree file s ∙ sym (is_meant tree other r)

pub same_fault : (tree : t.File) (f g : ScopeFault) → HasFirst tree f → HasFirst tree g → f ≡ g
same_fault tree f g r s = one_first (in_order (file_points tree)) f g r s
