-- What numbers mean that were given before the store grew, they meant then too.
use Rattle.std.proofs.Common.{◌≡◌, ℕ, ◌<◌, List, Some, slice_get, sym, subst, ◌∙◌, length, get_or}
use Rattle.std.proofs.lemmas.Option.{slice_get-get_or}
use Rattle.spi_term.specs.Term.{Message, Atom, Ty}
use Rattle.spi_term.proofs.Lists.{some_is}
use Rattle.spi_rules.specs.Environment.{Env}
use Rattle.spi_intern.specs.Table.{KeepsAll, TellsAll, tells_none, tells_next}
use Rattle.spi_intern.specs.Kinds.{Kind}
use Rattle.spi_intern.specs.Atoms.{SaysAtom, says_end, says_check, says_many, IdsMean}
use Rattle.spi_intern.specs.Meaning.{KindMeans, means_un, means_unit, means_pair, means_sum, means_key, means_nonce, Means, Keeps}
use Rattle.spi_intern.specs.declared.atoms.AtomId.{AtomId}
use Rattle.spi_intern.specs.declared.types.TyId.{TyId}
use Rattle.spi_intern.specs.declared.store.Store.{Store}
use Rattle.spi_message.specs.Judging.{StandFor, stand_none, stand_next}

-- a place that was there has the value that it had
pub at_back : {M : Type 0} {ms ns : List M} → KeepsAll ms ns → (i : ℕ) (m n : M) → slice_get ms i ≡ Some m → slice_get ns i ≡ Some n → slice_get ms i ≡ Some n
at_back k i m n h g = h ∙ sym (k.at i m h) ∙ g

pub message_back : {ms ns : List Message} → KeepsAll ms ns → (i : ℕ) (n : Message) → i < length ms → slice_get ns i ≡ Some n → slice_get ms i ≡ Some n
message_back {ms = ms} k i n l g = at_back k i (get_or ms i n) n (slice_get-get_or ms i n l) g

atom_back : {ms ns : List Message} {i : AtomId} {a b : Atom} → KeepsAll ms ns → SaysAtom ms i a → SaysAtom ns i b → SaysAtom ms i b
atom_back k (says_end e) (says_end f) = says_end (at_back k _ _ _ e f)
atom_back k (says_check e) (says_check f) = says_check (at_back k _ _ _ e f)
atom_back k (says_many e) (says_many f) = says_many (at_back k _ _ _ e f)

atoms_back : {ms ns : List Message} {ids : List AtomId} {xs ys : List Atom} → KeepsAll ms ns → TellsAll (SaysAtom ms) ids xs → TellsAll (SaysAtom ns) ids ys → TellsAll (SaysAtom ms) ids ys
atoms_back k tells_none tells_none = tells_none
atoms_back k (tells_next s h) (tells_next r g) = tells_next (atom_back k s r) (atoms_back k h g)

ids_back : {ms ns : List Message} {ids js : List AtomId} {es fs : List Atom} → KeepsAll ms ns → ids ≡ js → IdsMean ms ids es → IdsMean ns js fs → IdsMean ms js fs
ids_back {ms} {js = js} k e h g = record {
  told = g.told;
  each = atoms_back k (subst (λ is. TellsAll (SaysAtom ms) is h.told) e h.each) g.each;
  same = g.same;
  once = g.once;
  order = g.order;
}

kind_back : {ms ns : List Message} {ls ks : List (List AtomId)} {k : Kind} {t u : Ty} → KeepsAll ms ns → KeepsAll ls ks → KindMeans ms ls k t → KindMeans ns ks k u → KindMeans ms ls k u
kind_back f g means_un means_un = means_un
kind_back f g means_unit means_unit = means_unit
kind_back f g (means_pair a b) (means_pair c d) = means_pair (kind_back f g a c) (kind_back f g b d)
kind_back f g (means_sum a b) (means_sum c d) = means_sum (kind_back f g a c) (kind_back f g b d)
kind_back f g (means_key a) (means_key c) = means_key (kind_back f g a c)
kind_back f g (means_nonce {e = i} {ids = ids} e h) (means_nonce {ids = js} d l) =
    means_nonce (at_back g i ids js e d) (ids_back f (some_is (sym (g.at i ids e) ∙ d)) h l)

pub means_back : {s r : Store} {i : ℕ} {t u : Ty} → Keeps s r → Means s i t → Means r i u → Means s i u
means_back {s} {r} {i} {t} {u} k h g = record {
  kind = g.kind;
  at = at_back k.types i h.kind g.kind h.at g.at;
  means = kind_back k.messages k.effects (subst (λ x. KindMeans s.messages s.effects x t) (some_is (sym (k.types.at i h.kind h.at) ∙ g.at)) h.means) g.means;
}

pub stand_back : {s r : Store} {ids : List TyId} {d e : Env} → Keeps s r → StandFor s ids d → StandFor r ids e → StandFor s ids e
stand_back k stand_none stand_none = stand_none
stand_back k (stand_next m h) (stand_next l g) = stand_next (means_back k m l) (stand_back k h g)
