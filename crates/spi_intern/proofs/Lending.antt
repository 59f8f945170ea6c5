-- What a node of a type says of the type that its number means.
use Rattle.std.proofs.Common.{◌≡◌, ℕ, List, Some, slice_get, sym, subst}
use denote.Ref.{Bor}
use Rattle.spi_term.specs.Term.{Ty}
use Rattle.spi_intern.specs.Kinds.{Kind}
use Rattle.spi_intern.specs.Typed as Typed
use Rattle.spi_intern.specs.Typed.{SaysKind}
use Rattle.spi_intern.specs.Atoms.{IdsMean}
use Rattle.spi_intern.specs.Meaning.{KindMeans, means_un, means_unit, means_pair, means_sum, means_key, means_nonce, Means}
use Rattle.spi_intern.specs.declared.types.TyId.{TyId}
use Rattle.spi_intern.specs.declared.types.TyNode.TheVariants as Node
use Rattle.spi_intern.specs.declared.atoms.AtomId.{AtomId}
use Rattle.spi_intern.specs.declared.store.Store.{Store}
use Rattle.spi_intern.specs.declared.store.TyPart.TheVariants as Part
use Rattle.spi_intern.specs.Lent.{SaysTy, says_un, says_unit, says_pair, says_sum, says_key, says_nonce}

module _ (s : Store) where
  of_un : (k : Kind) (u : Ty) → SaysKind s.types Node.Un k → KindMeans s.messages s.effects k u → SaysTy s Part.Un u
  of_un k u Typed.says_un means_un = says_un

  of_unit : (k : Kind) (u : Ty) → SaysKind s.types Node.Unit k → KindMeans s.messages s.effects k u → SaysTy s Part.Unit u
  of_unit k u Typed.says_unit means_unit = says_unit

  of_pair : (a b : TyId) (k : Kind) (u : Ty) → SaysKind s.types (Node.Pair a b) k → KindMeans s.messages s.effects k u → SaysTy s (Part.Pair a b) u
  of_pair a b k u (Typed.says_pair {t = x} {u = y} e f) (means_pair m n) = says_pair record { kind = x; at = e; means = m } record { kind = y; at = f; means = n }

  of_sum : (a b : TyId) (k : Kind) (u : Ty) → SaysKind s.types (Node.Sum a b) k → KindMeans s.messages s.effects k u → SaysTy s (Part.Sum a b) u
  of_sum a b k u (Typed.says_sum {t = x} {u = y} e f) (means_sum m n) = says_sum record { kind = x; at = e; means = m } record { kind = y; at = f; means = n }

  of_key : (a : TyId) (k : Kind) (u : Ty) → SaysKind s.types (Node.Key a) k → KindMeans s.messages s.effects k u → SaysTy s (Part.Key a) u
  of_key a k u (Typed.says_key {t = x} e) (means_key m) = says_key record { kind = x; at = e; means = m }

  of_nonce : (e : ℕ) (ids : Bor (List AtomId)) → ((js : List AtomId) → slice_get s.effects e ≡ Some js → ids.now ≡ js) → (k : Kind) (u : Ty) → SaysKind s.types (Node.Nonce e) k → KindMeans s.messages s.effects k u → SaysTy s (Part.Nonce ids) u
  of_nonce e ids lent k u Typed.says_nonce (means_nonce {ids = js} {es = es} at m) = says_nonce (subst (λ zs. IdsMean s.messages zs es) (sym (lent js at)) m)

pub lent_un : {s : Store} {i : ℕ} {u : Ty} → (h : Means s i u) → SaysKind s.types Node.Un h.kind → SaysTy s Part.Un u
lent_un {s} {i} {u} h n = of_un s h.kind u n h.means

pub lent_unit : {s : Store} {i : ℕ} {u : Ty} → (h : Means s i u) → SaysKind s.types Node.Unit h.kind → SaysTy s Part.Unit u
lent_unit {s} {i} {u} h n = of_unit s h.kind u n h.means

pub lent_pair : {s : Store} {i : ℕ} {a b : TyId} {u : Ty} → (h : Means s i u) → SaysKind s.types (Node.Pair a b) h.kind → SaysTy s (Part.Pair a b) u
lent_pair {s} {i} {a} {b} {u} h n = of_pair s a b h.kind u n h.means

pub lent_sum : {s : Store} {i : ℕ} {a b : TyId} {u : Ty} → (h : Means s i u) → SaysKind s.types (Node.Sum a b) h.kind → SaysTy s (Part.Sum a b) u
lent_sum {s} {i} {a} {b} {u} h n = of_sum s a b h.kind u n h.means

pub lent_key : {s : Store} {i : ℕ} {a : TyId} {u : Ty} → (h : Means s i u) → SaysKind s.types (Node.Key a) h.kind → SaysTy s (Part.Key a) u
lent_key {s} {i} {a} {u} h n = of_key s a h.kind u n h.means

pub lent_nonce : {s : Store} {i e : ℕ} {u : Ty} → (h : Means s i u) → SaysKind s.types (Node.Nonce e) h.kind → (ids : Bor (List AtomId)) → ((js : List AtomId) → slice_get s.effects e ≡ Some js → ids.now ≡ js) → SaysTy s (Part.Nonce ids) u
lent_nonce {s} {i} {e} {u} h n ids lent = of_nonce s e ids lent h.kind u n h.means
