-- Messages and types of which the names in scope tell alone that they are labels and good.
use Rattle.std.specs.Prelude.{◌≡◌, ℕ, suc, Bool, true, false, ◌&&◌, ltb, ⊤, List, slice_get, Some}
use Rattle.spi_term.specs.Term.{Message, bound, name, unit, pair, in_left, in_right, enc, hash, Atom, ends, checks, many, Effect, Ty, un, unit_ty, pair_ty, sum_ty, key, nonce}
use Rattle.spi_term.specs.Lists.{In}
use Rattle.spi_intern.specs.Meaning.{Means}
use Rattle.spi_intern.specs.declared.types.TyId.{TyId}
use Rattle.spi_intern.specs.declared.atoms.AtomId.{AtomId}
use Rattle.spi_intern.specs.declared.store.Store.{Store}
use Rattle.spi_message.specs.Filling.{atom_at}

-- made of names below k and of indices below d, with no encryption in it
abbrev pub plain : ℕ → ℕ → Message → Bool
plain k d (bound i) = ltb i d
plain k d (name x) = ltb x k
plain k d unit = true
plain k d (pair m n) = plain k d m && plain k d n
plain k d (in_left m) = plain k d m
plain k d (in_right m) = plain k d m
plain k d (enc m n) = false
plain k d (hash m) = plain k d m

-- an atom that is good where its message is a label
abbrev pub plain_atom : ℕ → ℕ → Atom → Bool
plain_atom k d (ends m) = plain k d m
plain_atom k d (checks m) = false
plain_atom k d (many m) = plain k d m

pub record ArePlain (k d : ℕ) (es : Effect) : Type 0 where
  pub each : (a : Atom) → In a es → plain_atom k d a ≡ true

-- a type that stands under d binders, all of whose atoms are such
abbrev pub IsPlain : ℕ → ℕ → Ty → Type 0
IsPlain k d un = ⊤
IsPlain k d unit_ty = ⊤
IsPlain k d (pair_ty t u) = IsPlain k d t × IsPlain k (suc d) u
IsPlain k d (sum_ty t u) = IsPlain k d t × IsPlain k d u
IsPlain k d (key t) = IsPlain k d t
IsPlain k d (nonce es) = ArePlain k d es

-- each type that the number means is such
pub record MeansPlain (s : Store) (k d : ℕ) (t : TyId) : Type 0 where
  pub at : (u : Ty) → Means s t.place u → IsPlain k d u

-- each of the atoms is such
pub record HavePlain (s : Store) (k d : ℕ) (ids : List AtomId) : Type 0 where
  pub each : (i : ℕ) (a : AtomId) → slice_get ids i ≡ Some a → plain_atom k d (atom_at s.messages a) ≡ true
