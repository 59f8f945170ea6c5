-- What the numbers of a store mean.
use Rattle.std.specs.Prelude.{◌≡◌, ℕ, List, Some, slice_get}
use Rattle.spi_term.specs.Term as Term
use Rattle.spi_term.specs.Term.{Message, Effect, Ty, unit_ty, pair_ty, sum_ty}
use Rattle.spi_intern.specs.Table.{KeepsAll, AllDiffer}
use Rattle.spi_intern.specs.Atoms.{IdsMean}
use Rattle.spi_intern.specs.Kinds as Kinds
use Rattle.spi_intern.specs.Kinds.{Kind, un, pair, sum, key, nonce}
use Rattle.spi_intern.specs.declared.atoms.AtomId.{AtomId}
use Rattle.spi_intern.specs.declared.store.Store.{Store}

pub data KindMeans (ms : List Message) (ls : List (List AtomId)) : Kind → Ty → Type 0 where
  means_un : KindMeans ms ls un Term.un
  means_unit : KindMeans ms ls Kinds.unit unit_ty
  means_pair : {k l : Kind} {t u : Ty} → KindMeans ms ls k t → KindMeans ms ls l u
      → KindMeans ms ls (pair k l) (pair_ty t u)
  means_sum : {k l : Kind} {t u : Ty} → KindMeans ms ls k t → KindMeans ms ls l u
      → KindMeans ms ls (sum k l) (sum_ty t u)
  means_key : {k : Kind} {t : Ty} → KindMeans ms ls k t → KindMeans ms ls (key k) (Term.key t)
  means_nonce : {e : ℕ} {ids : List AtomId} {es : Effect} → slice_get ls e ≡ Some ids → IdsMean ms ids es
      → KindMeans ms ls (nonce e) (Term.nonce es)

-- the type with the number i is t, up to equal counts within each Nonce
pub record Means (s : Store) (i : ℕ) (t : Ty) : Type 0 where
  pub kind : Kind
  pub at : slice_get s.types i ≡ Some kind
  pub means : KindMeans s.messages s.effects kind t

-- each number means what it meant
pub record Keeps (old new : Store) : Type 0 where
  pub messages : KeepsAll old.messages new.messages
  pub effects : KeepsAll old.effects new.effects
  pub types : KeepsAll old.types new.types

-- nothing has two numbers
pub record NoneTwice (s : Store) : Type 0 where
  pub messages : AllDiffer s.messages
  pub effects : AllDiffer s.effects
  pub types : AllDiffer s.types
