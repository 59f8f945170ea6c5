-- What the declarations and what comes behind them say together.
use Rattle.std.proofs.Common.{◌≡◌, ℕ, [], sym, ap, ◌∙◌, inl, inr, ⊎_elim}
use Rattle.std.specs.Prelude.{◌⊎◌, Ok, Err}
use Rattle.spi_tree.specs.Trees as t
use Rattle.spi_scope.specs.declared.fault.ScopeFault.{ScopeFault}
use Rattle.spi_scope.specs.declared.fault.ScopeFault.TheVariants.{NoMemory}
use Rattle.spi_scope.specs.Scope.{Names, Abbreviations}
use Rattle.spi_scope.specs.Points.{decls_points, body_points, file_points, all_names, all_types}
use Rattle.spi_scope.specs.First.{IsClean, HasFirst}
use Rattle.spi_scope.specs.Gives.{Ran, after, FailsWith, run}
use Rattle.spi_scope.proofs.Firsts.{faulted, is_clean}

module _ (tree : t.File) where
  pub declared_fails : (e : ScopeFault) → FailsWith e (run (decls_points [] [] tree.decls) 0) → (e ≡ NoMemory) ⊎ HasFirst tree e
  declared_fails e h =
      let body : ℕ → Ran = run (body_points (all_types [] [] tree.decls) (all_names [] tree.decls) tree) in
      faulted e (file_points tree) (⊎_elim (λ m. inl m) (λ f. inr (ap (λ (r : Ran). after r body) f)) h)

  module _ (c : ℕ) (ts : Abbreviations) (xs : Names) (ran : run (decls_points [] [] tree.decls) 0 ≡ Ok c) (e : ts ≡ all_types [] [] tree.decls) (f : xs ≡ all_names [] tree.decls) where
    whole : (r : Ran) → run (body_points ts xs tree) c ≡ r → run (file_points tree) 0 ≡ r
    whole r h =
        ap (λ (q : Ran). after q (run (body_points (all_types [] [] tree.decls) (all_names [] tree.decls) tree))) ran
        ∙ ap (λ (us : Abbreviations). run (body_points us (all_names [] tree.decls) tree) c) (sym e) ∙ ap (λ (ys : Names). run (body_points ts ys tree) c) (sym f) ∙ h

    pub resolved_clean : (d : ℕ) → run (body_points ts xs tree) c ≡ Ok d → IsClean tree
    resolved_clean d h = (is_clean (file_points tree) d (whole (Ok d) h)).0

    pub resolved_fails : (g : ScopeFault) → FailsWith g (run (body_points ts xs tree) c) → (g ≡ NoMemory) ⊎ HasFirst tree g
    resolved_fails g h = faulted g (file_points tree) (⊎_elim (λ m. inl m) (λ k. inr (whole (Err g) k)) h)
