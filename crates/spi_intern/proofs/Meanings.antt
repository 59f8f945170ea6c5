-- What numbers mean stays.
use Rattle.std.proofs.Common.{◌≡◌, ℕ, ◌+◌, ◌<◌, List, [], ◌∷◌, ◌++◌, Some, slice_get, refl, sym, ap, subst, ◌∙◌, map, take, get_or, length}
use Rattle.std.proofs.lemmas.List.{take_more, map_push}
use Rattle.spi_term.specs.Term as Term
use Rattle.spi_term.specs.Term.{Message, Atom, Ty, unit_ty, pair_ty, sum_ty}
use Rattle.spi_intern.specs.Table.{KeepsAll, TellsAll, tells_none}
use Rattle.spi_intern.specs.Kinds as Kinds
use Rattle.spi_intern.specs.Kinds.{Kind}
use Rattle.spi_intern.specs.Typed.{SaysKind, says_un, says_unit, says_pair, says_sum, says_key, says_nonce, said_kind}
use Rattle.spi_intern.specs.declared.types.TyId.{TyId}
use Rattle.spi_intern.specs.declared.types.TyNode.{TyNode}
use Rattle.spi_intern.specs.declared.types.TyNode.TheVariants.{Un, Unit as NoParts, Pair, Sum, Key, Nonce}
use Rattle.spi_intern.specs.declared.atoms.AtomId.{AtomId}
use Rattle.spi_intern.specs.declared.store.Store.{Store}
use Rattle.spi_intern.specs.Atoms.{SaysAtom, says_end, says_check, says_many, IdsMean}
use Rattle.spi_intern.specs.Meaning.{KindMeans, means_un, means_unit, means_pair, means_sum, means_key, means_nonce, Means, Keeps}
use Rattle.spi_intern.proofs.Tables.{keeps_same, keeps_more, tells_map, tells_push}
use Rattle.spi_intern.proofs.TyLaws.{says_said, says_it}

pub atom_keeps : {ms ns : List Message} → KeepsAll ms ns → (i : AtomId) (a : Atom) → SaysAtom ms i a → SaysAtom ns i a
atom_keeps k i a (says_end e) = says_end (k.at _ _ e)
atom_keeps k i a (says_check e) = says_check (k.at _ _ e)
atom_keeps k i a (says_many e) = says_many (k.at _ _ e)

pub ids_keep : {ms ns : List Message} {ids : List AtomId} {es : List Atom} → KeepsAll ms ns → IdsMean ms ids es → IdsMean ns ids es
ids_keep k h = record { told = h.told; each = tells_map (atom_keeps k) h.each; same = h.same; once = h.once; order = h.order }

pub kind_keeps : {ms ns : List Message} {ls ks : List (List AtomId)} {k : Kind} {t : Ty} → KeepsAll ms ns → KeepsAll ls ks → KindMeans ms ls k t → KindMeans ns ks k t
kind_keeps f g means_un = means_un
kind_keeps f g means_unit = means_unit
kind_keeps f g (means_pair a b) = means_pair (kind_keeps f g a) (kind_keeps f g b)
kind_keeps f g (means_sum a b) = means_sum (kind_keeps f g a) (kind_keeps f g b)
kind_keeps f g (means_key a) = means_key (kind_keeps f g a)
kind_keeps f g (means_nonce e h) = means_nonce (g.at _ _ e) (ids_keep f h)

pub means_keeps : {s r : Store} {i : ℕ} {t : Ty} → Keeps s r → Means s i t → Means r i t
means_keeps k h = record { kind = h.kind; at = k.types.at _ _ h.at; means = kind_keeps k.messages k.effects h.means }

pub terms_same : (s : Store) → Keeps s s
terms_same s = record { messages = keeps_same refl; effects = keeps_same refl; types = keeps_same refl }

pub terms_more : {s r q : Store} → Keeps s r → Keeps r q → Keeps s q
terms_more k l = record { messages = keeps_more k.messages l.messages; effects = keeps_more k.effects l.effects; types = keeps_more k.types l.types }

-- a node of a type, and the type that it means
pub record NodeMeans (s : Store) (n : TyNode) (t : Ty) : Type 0 where
  pub kind : Kind
  pub says : SaysKind s.types n kind
  pub means : KindMeans s.messages s.effects kind t

pub un_node : {s : Store} → NodeMeans s Un Term.un
un_node = record { kind = Kinds.un; says = says_un; means = means_un }

pub unit_node : {s : Store} → NodeMeans s NoParts unit_ty
unit_node = record { kind = Kinds.unit; says = says_unit; means = means_unit }

pub pair_node : {s : Store} {a b : TyId} {t u : Ty} → Means s a.place t → Means s b.place u → NodeMeans s (Pair a b) (pair_ty t u)
pair_node h g = record { kind = Kinds.pair h.kind g.kind; says = says_pair h.at g.at; means = means_pair h.means g.means }

pub sum_node : {s : Store} {a b : TyId} {t u : Ty} → Means s a.place t → Means s b.place u → NodeMeans s (Sum a b) (sum_ty t u)
sum_node h g = record { kind = Kinds.sum h.kind g.kind; says = says_sum h.at g.at; means = means_sum h.means g.means }

pub key_node : {s : Store} {a : TyId} {t : Ty} → Means s a.place t → NodeMeans s (Key a) (Term.key t)
key_node h = record { kind = Kinds.key h.kind; says = says_key h.at; means = means_key h.means }

pub nonce_node : {s : Store} {e : ℕ} {ids : List AtomId} {es : List Atom} → slice_get s.effects e ≡ Some ids → IdsMean s.messages ids es → NodeMeans s (Nonce e) (Term.nonce es)
nonce_node {e = e} h g = record { kind = Kinds.nonce e; says = says_nonce; means = means_nonce h g }

pub node_says : {s : Store} {n : TyNode} {t : Ty} → NodeMeans s n t → SaysKind s.types n (said_kind s.types n)
node_says h = says_it h.says

-- a type whose node was put
pub made : {s r : Store} {i : ℕ} {n : TyNode} {t : Ty} → Keeps s r → NodeMeans s n t → slice_get r.types i ≡ Some (said_kind s.types n) → Means r i t
made {s} {n = n} f h at = record { kind = h.kind; at = at ∙ ap Some (says_said s.types n h.kind h.says); means = kind_keeps f.messages f.effects h.means }

-- one more element of a list
pub map_more : {A B : Type 0} (f : A → B) (xs ys : List A) (n : ℕ) (x : A) → ys ≡ xs → n < length ys → x ≡ get_or ys n x → map f (take n xs) ++ f x ∷ [] ≡ map f (take (n + 1) xs)
map_more f xs ys n x v h e =
    let h' = subst (λ zs. n < length zs) v h in
    let e' = subst (λ zs. x ≡ get_or zs n x) v e in
    sym (ap (map f) (take_more xs n x h' ∙ ap (λ y. take n xs ++ y ∷ []) (sym e')) ∙ map_push f (take n xs) x)

pub ids_next : {ms ns : List Message} {ids js : List AtomId} {i : AtomId} {es : List Atom} {a : Atom} → KeepsAll ms ns → TellsAll (SaysAtom ms) ids es → SaysAtom ns i a → js ≡ ids ++ i ∷ [] → TellsAll (SaysAtom ns) js (es ++ a ∷ [])
ids_next {ns = ns} {es = es} {a = a} k h s g = subst (λ zs. TellsAll (SaysAtom ns) zs (es ++ a ∷ [])) (sym g) (tells_push (tells_map (atom_keeps k) h) s)

pub ids_none : {ms : List Message} {ids : List AtomId} → ids ≡ [] → TellsAll (SaysAtom ms) ids []
ids_none {ms} e = subst (λ zs. TellsAll (SaysAtom ms) zs []) (sym e) tells_none
