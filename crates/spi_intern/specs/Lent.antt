-- The outermost constructor of a type, with the numbers of its parts.
use Rattle.std.specs.Prelude.{List}
use denote.Ref.{Bor}
use Rattle.spi_term.specs.Term as Term
use Rattle.spi_term.specs.Term.{Effect, Ty, unit_ty, pair_ty, sum_ty}
use Rattle.spi_intern.specs.Atoms.{IdsMean}
use Rattle.spi_intern.specs.Meaning.{Means}
use Rattle.spi_intern.specs.declared.types.TyId.{TyId}
use Rattle.spi_intern.specs.declared.atoms.AtomId.{AtomId}
use Rattle.spi_intern.specs.declared.store.Store.{Store}
use Rattle.spi_intern.specs.declared.store.TyPart.{TyPart}
use Rattle.spi_intern.specs.declared.store.TyPart.TheVariants.{Un, Unit as NoParts, Pair, Sum, Key, Nonce}

pub data SaysTy (s : Store) : TyPart → Ty → Type 0 where
  says_un : SaysTy s Un Term.un
  says_unit : SaysTy s NoParts unit_ty
  says_pair : {a b : TyId} {t u : Ty} → Means s a.place t → Means s b.place u
      → SaysTy s (Pair a b) (pair_ty t u)
  says_sum : {a b : TyId} {t u : Ty} → Means s a.place t → Means s b.place u → SaysTy s (Sum a b) (sum_ty t u)
  says_key : {a : TyId} {t : Ty} → Means s a.place t → SaysTy s (Key a) (Term.key t)
  says_nonce : {ids : Bor (List AtomId)} {es : Effect} → IdsMean s.messages ids.now es
      → SaysTy s (Nonce ids) (Term.nonce es)
