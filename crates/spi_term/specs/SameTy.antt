-- Types that are equal up to equal counts of atoms within each Nonce.
use Rattle.spi_term.specs.Counts.{SameEffect}
use Rattle.spi_term.specs.Term.{Effect, Ty, un, unit_ty, pair_ty, sum_ty, key, nonce}

-- equal up to equal counts within each Nonce
pub data SameTy : Ty → Ty → Type 0 where
  same_un : SameTy un un
  same_unit : SameTy unit_ty unit_ty
  same_pair : {t t' u u' : Ty} → SameTy t t' → SameTy u u' → SameTy (pair_ty t u) (pair_ty t' u')
  same_sum : {t t' u u' : Ty} → SameTy t t' → SameTy u u' → SameTy (sum_ty t u) (sum_ty t' u')
  same_key : {t t' : Ty} → SameTy t t' → SameTy (key t) (key t')
  same_nonce : {es fs : Effect} → SameEffect es fs → SameTy (nonce es) (nonce fs)
