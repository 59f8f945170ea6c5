-- The parts of types by their numbers.
use Rattle.std.proofs.Common.{◌≡◌, refl, sym, subst, ℕ, ◌<◌, length}
use Rattle.std.proofs.lemmas.Option.{slice_get_within}
use Rattle.spi_term.specs.Term.{Ty, pair_ty, sum_ty}
use Rattle.spi_intern.specs.Given.{IsGiven}
use Rattle.spi_intern.specs.Meaning.{Means}
use Rattle.spi_intern.specs.Lent.{SaysTy, says_pair, says_sum}
use Rattle.spi_intern.specs.declared.types.TyId.{TyId}
use Rattle.spi_intern.specs.declared.store.Store.{Store}
use Rattle.spi_intern.specs.declared.store.TyPart.{TyPart}
use Rattle.spi_intern.specs.declared.store.TyPart.TheVariants.{Pair, Sum}
use Rattle.spi_audit.specs.Asked.{IsPairOf, IsSumOf, IsNoPair, IsNoSum}

-- what a lent store says is so in the judge's
module _ {r s : Store} (e : r ≡ s) where
  pub given_there : {i : ℕ} → IsGiven s i → IsGiven r i
  given_there {i} g = subst (λ s. IsGiven s i) (sym e) g

  pub means_there : {i : ℕ} {u : Ty} → Means s i u → Means r i u
  means_there {i} {u} m = subst (λ s. Means s i u) (sym e) m

  pub given_place : {i : ℕ} → IsGiven s i → i < length r.types
  given_place {i} g = let m = means_there g.means in slice_get_within r.types i m.kind m.at

  means_here : {i : ℕ} {u : Ty} → Means r i u → Means s i u
  means_here {i} {u} m = subst (λ s. Means s i u) e m

  pub pair_told : (t a b : TyId) → ((u : Ty) → Means r t.place u → SaysTy r (Pair a b) u) → IsPairOf s t a b
  pair_told t a b h = record { at = λ u m. go u (h u (means_there m)) }
    where
      go : (u : Ty) → SaysTy r (Pair a b) u → (v w : Ty) × (u ≡ pair_ty v w) × Means s a.place v × Means s b.place w
      go _ (says_pair {t = v} {u = w} m n) = (v, w, refl, means_here m, means_here n)

  pub sum_told : (t a b : TyId) → ((u : Ty) → Means r t.place u → SaysTy r (Sum a b) u) → IsSumOf s t a b
  sum_told t a b h = record { at = λ u m. go u (h u (means_there m)) }
    where
      go : (u : Ty) → SaysTy r (Sum a b) u → (v w : Ty) × (u ≡ sum_ty v w) × Means s a.place v × Means s b.place w
      go _ (says_sum {t = v} {u = w} m n) = (v, w, refl, means_here m, means_here n)

  pub no_pair_told : (t : TyId) (p : TyPart) → ((a b : TyId) → p ≡ Pair a b → ⊥) → ((u : Ty) → Means r t.place u → SaysTy r p u) → IsNoPair s t
  no_pair_told t p d h = record { at = λ u v w m q. go d (subst (λ u. SaysTy r p u) q (h u (means_there m))) }
    where
      go : {p : TyPart} {v w : Ty} → ((a b : TyId) → p ≡ Pair a b → ⊥) → SaysTy r p (pair_ty v w) → ⊥
      go d (says_pair {a = a} {b = b} m n) = d a b refl

  pub no_sum_told : (t : TyId) (p : TyPart) → ((a b : TyId) → p ≡ Sum a b → ⊥) → ((u : Ty) → Means r t.place u → SaysTy r p u) → IsNoSum s t
  no_sum_told t p d h = record { at = λ u v w m q. go d (subst (λ u. SaysTy r p u) q (h u (means_there m))) }
    where
      go : {p : TyPart} {v w : Ty} → ((a b : TyId) → p ≡ Sum a b → ⊥) → SaysTy r p (sum_ty v w) → ⊥
      go d (says_sum {a = a} {b = b} m n) = d a b refl
