-- What the nodes of types say.
use Rattle.std.specs.Prelude.{◌≡◌, ℕ, List, Option, Some, None, slice_get}
use Rattle.spi_intern.specs.Kinds as Kinds
use Rattle.spi_intern.specs.Kinds.{Kind, un, pair, sum, key, nonce}
use Rattle.spi_intern.specs.declared.types.TyId.{TyId}
use Rattle.spi_intern.specs.declared.types.TyNode.{TyNode}
use Rattle.spi_intern.specs.declared.types.TyNode.TheVariants.{Un, Unit as NoParts, Pair, Sum, Key, Nonce}

pub data SaysKind (ts : List Kind) : TyNode → Kind → Type 0 where
  says_un : SaysKind ts Un un
  says_unit : SaysKind ts NoParts Kinds.unit
  says_pair : {a b : TyId} {t u : Kind} → slice_get ts a.place ≡ Some t → slice_get ts b.place ≡ Some u
      → SaysKind ts (Pair a b) (pair t u)
  says_sum : {a b : TyId} {t u : Kind} → slice_get ts a.place ≡ Some t → slice_get ts b.place ≡ Some u
      → SaysKind ts (Sum a b) (sum t u)
  says_key : {a : TyId} {t : Kind} → slice_get ts a.place ≡ Some t → SaysKind ts (Key a) (key t)
  says_nonce : {e : ℕ} → SaysKind ts (Nonce e) (nonce e)

abbrev pub or_un : Option Kind → Kind
or_un None = un
or_un (Some t) = t

abbrev pub kind_at : List Kind → TyId → Kind
kind_at ts id = or_un (slice_get ts id.place)

abbrev pub said_kind : List Kind → TyNode → Kind
said_kind ts Un = un
said_kind ts NoParts = Kinds.unit
said_kind ts (Pair a b) = pair (kind_at ts a) (kind_at ts b)
said_kind ts (Sum a b) = sum (kind_at ts a) (kind_at ts b)
said_kind ts (Key a) = key (kind_at ts a)
said_kind ts (Nonce e) = nonce e
