-- Atoms and types with values for their indices.
use Rattle.std.proofs.Common.{◌≡◌, ℕ, zero, suc, ◌+◌, ◌<◌, ◌≤◌, ◌^◌, List, [], ◌∷◌, ◌++◌, map, Some, slice_get, length, refl, sym, ap, subst, ◌∙◌, arith, Result, Ok, Err, IfOk}
use Rattle.std.proofs.lemmas.Option.{slice_get_within}
use Rattle.spi_term.specs.Term as Term
use Rattle.spi_term.specs.Term.{Message, Atom, ends, checks, many, Effect, Ty, unit_ty, pair_ty, sum_ty, key, nonce}
use Rattle.spi_term.specs.Counts.{SameEffect}
use Rattle.spi_term.specs.SameTy.{SameTy, same_un, same_unit, same_pair, same_sum, same_key, same_nonce}
use Rattle.spi_term.specs.Substitution.{atom_map, effect_map, ty_map}
use Rattle.spi_term.proofs.Counting.{same_trans}
use Rattle.spi_effect.proofs.Laws.{same_map}
use Rattle.spi_intern.specs.Table.{KeepsAll, TellsAll, tells_none, tells_next}
use Rattle.spi_intern.specs.Kinds.{Kind}
use Rattle.spi_intern.specs.Typed.{or_un, kind_at}
use Rattle.spi_intern.specs.Atoms.{SaysAtom, says_end, says_check, says_many, IdsMean}
use Rattle.spi_intern.specs.Meaning.{KindMeans, means_un, means_unit, means_pair, means_sum, means_key, means_nonce, Means, Keeps}
use Rattle.spi_intern.specs.Given.{IsGiven, AreGiven}
use Rattle.spi_intern.specs.Lent.{SaysTy, says_un, says_unit, says_pair, says_sum, says_key, says_nonce}
use Rattle.spi_intern.specs.declared.messages.MsgId.{MsgId}
use Rattle.spi_intern.specs.declared.types.TyId.{TyId}
use Rattle.spi_intern.specs.declared.atoms.AtomId.{AtomId}
use Rattle.spi_intern.specs.declared.atoms.AtomId.TheVariants.{End, Check, Many}
use Rattle.spi_intern.specs.declared.store.Store.{Store}
use Rattle.spi_intern.specs.declared.store.TyPart.TheVariants as Part
use Rattle.spi_intern.proofs.Tables.{tells_map, tells_push}
use Rattle.spi_intern.proofs.Meanings.{atom_keeps, means_keeps}
use Rattle.spi_intern.proofs.Sized.{at_message}
use Rattle.spi_message.specs.Filling.{fill, values_of, atom_at, message_in, AreIdsBelow, AtomsAreBelow, IsDepth, FillsMessage, FillsAtom, FillsAtoms, FillsTy, kind_size, ty_size}
use Rattle.spi_message.proofs.Fills.{message_keeps, below_keeps, values_keep}
use denote.Ref.{Bor}

-- one atom
pub message_fills : {ms ns : List Message} {vs : List MsgId} {depth : ℕ} {a b : AtomId} {m r : MsgId} → m ≡ message_in a → a ≡ b → FillsMessage ms ns vs depth m r → FillsMessage ms ns vs depth (message_in b) r
message_fills {ms} {ns} {vs} {depth} {r = r} q e f = subst (λ x. FillsMessage ms ns vs depth x r) (q ∙ ap message_in e) f

pub fills_end : {ms ns : List Message} {vs : List MsgId} {depth : ℕ} {a : AtomId} {m r : MsgId} → a ≡ End m → FillsMessage ms ns vs depth m r → FillsAtom ms ns vs depth a (End r)
fills_end {ms} {ns} {vs} {r = r} e f = record { at = λ d h. subst (λ x. SaysAtom ns (End r) (atom_map (fill (values_of ms vs) d) (atom_at ms x))) (sym e) (says_end (f.at d h)) }

pub fills_check : {ms ns : List Message} {vs : List MsgId} {depth : ℕ} {a : AtomId} {m r : MsgId} → a ≡ Check m → FillsMessage ms ns vs depth m r → FillsAtom ms ns vs depth a (Check r)
fills_check {ms} {ns} {vs} {r = r} e f = record { at = λ d h. subst (λ x. SaysAtom ns (Check r) (atom_map (fill (values_of ms vs) d) (atom_at ms x))) (sym e) (says_check (f.at d h)) }

pub fills_many : {ms ns : List Message} {vs : List MsgId} {depth : ℕ} {a : AtomId} {m r : MsgId} → a ≡ Many m → FillsMessage ms ns vs depth m r → FillsAtom ms ns vs depth a (Many r)
fills_many {ms} {ns} {vs} {r = r} e f = record { at = λ d h. subst (λ x. SaysAtom ns (Many r) (atom_map (fill (values_of ms vs) d) (atom_at ms x))) (sym e) (says_many (f.at d h)) }

-- a list of atoms
pub atoms_none : {ms ns : List Message} {vs : List MsgId} {depth : ℕ} {rs : List AtomId} → rs ≡ [] → FillsAtoms ms ns vs depth [] rs
atoms_none {ns = ns} e = record { at = λ d h. subst (λ zs. TellsAll (SaysAtom ns) zs []) (sym e) tells_none }

pub effect_push : (f : Message → Message) (g : AtomId → Atom) (xs : List AtomId) (x : AtomId) → effect_map f (map g (xs ++ x ∷ [])) ≡ effect_map f (map g xs) ++ atom_map f (g x) ∷ []
effect_push f g [] x = refl
effect_push f g (y ∷ xs) x = ap (λ zs. atom_map f (g y) ∷ zs) (effect_push f g xs x)

pub atom_at_keeps : {ms ns : List Message} (a : AtomId) → KeepsAll ms ns → (message_in a).place < length ms → atom_at ns a ≡ atom_at ms a
atom_at_keeps (End m) k h = ap ends (message_keeps m k h)
atom_at_keeps (Check m) k h = ap checks (message_keeps m k h)
atom_at_keeps (Many m) k h = ap many (message_keeps m k h)

pub atoms_next : {ls ms ns : List Message} {vs : List MsgId} {depth : ℕ} {xs ys zs rs : List AtomId} {a r : AtomId} → KeepsAll ls ms → AreIdsBelow vs (length ls) → (message_in a).place < length ls → FillsAtoms ls ms vs depth xs rs → KeepsAll ms ns → FillsAtom ms ns vs depth a r → ys ≡ xs ++ a ∷ [] → zs ≡ rs ++ r ∷ [] → FillsAtoms ls ns vs depth ys zs
atoms_next {ls} {ms} {ns} {vs} {xs = xs} {ys = ys} {rs = rs} {a = a} {r = r} k v w f l g p q = record {
  at = λ d h.
      let one : SaysAtom ns r (atom_map (fill (values_of ls vs) d) (atom_at ls a)) = subst (λ b. SaysAtom ns r b) (λ i. atom_map (fill (values_keep vs k v i) d) (atom_at_keeps a k w i)) (g.at d h) in
      let all : TellsAll (SaysAtom ns) (rs ++ r ∷ []) (effect_map (fill (values_of ls vs) d) (map (atom_at ls) xs) ++ atom_map (fill (values_of ls vs) d) (atom_at ls a) ∷ []) = tells_push (tells_map (λ i b s. atom_keeps l i b s) (f.at d h)) one in
      let e : effect_map (fill (values_of ls vs) d) (map (atom_at ls) xs) ++ atom_map (fill (values_of ls vs) d) (atom_at ls a) ∷ [] ≡ effect_map (fill (values_of ls vs) d) (map (atom_at ls) (xs ++ a ∷ [])) = sym (effect_push (fill (values_of ls vs) d) (atom_at ls) xs a) in
      subst (λ us. TellsAll (SaysAtom ns) us (effect_map (fill (values_of ls vs) d) (map (atom_at ls) ys))) (sym q) (subst (λ us. TellsAll (SaysAtom ns) (rs ++ r ∷ []) (effect_map (fill (values_of ls vs) d) (map (atom_at ls) us))) (sym p) (subst (TellsAll (SaysAtom ns) (rs ++ r ∷ [])) e all));
}

-- atoms that mean an effect are over messages of the table, and the effect is theirs
told_at : {ms : List Message} {a : AtomId} {b : Atom} → SaysAtom ms a b → (b ≡ atom_at ms a) × ((message_in a).place < length ms)
told_at {ms} (says_end {a = a} {m = m} e) = (ap ends (sym (at_message ms a e)), slice_get_within ms a.place m e)
told_at {ms} (says_check {a = a} {m = m} e) = (ap checks (sym (at_message ms a e)), slice_get_within ms a.place m e)
told_at {ms} (says_many {a = a} {m = m} e) = (ap many (sym (at_message ms a e)), slice_get_within ms a.place m e)

pub told_are : {ms : List Message} {ids : List AtomId} {es : List Atom} → TellsAll (SaysAtom ms) ids es → es ≡ map (atom_at ms) ids
told_are tells_none = refl
told_are (tells_next s t) = λ i. (told_at s).0 i ∷ told_are t i

told_below_at : {ms : List Message} {ids : List AtomId} {es : List Atom} → TellsAll (SaysAtom ms) ids es → (i : ℕ) (a : AtomId) → slice_get ids i ≡ Some a → (message_in a).place < length ms
told_below_at tells_none i a e = absurd cc
told_below_at {ms} (tells_next {p = p} s t) zero a e = let q : p ≡ a = cc in subst (λ x. (message_in x).place < length ms) q (told_at s).1
told_below_at (tells_next s t) (suc i) a e = told_below_at t i a e

pub told_below : {ms : List Message} {ids : List AtomId} {es : List Atom} → TellsAll (SaysAtom ms) ids es → AtomsAreBelow ids (length ms)
told_below t = record { at = told_below_at t }

pub atoms_below_keep : {ms ns : List Message} {ids : List AtomId} → KeepsAll ms ns → AtomsAreBelow ids (length ms) → AtomsAreBelow ids (length ns)
atoms_below_keep k h = record { at = λ i a e. below_keeps (message_in a) k (h.at i a e) }

-- a number means each type that is the same
kind_as : {ms : List Message} {ls : List (List AtomId)} {k : Kind} {t u : Ty} → SameTy t u → KindMeans ms ls k t → KindMeans ms ls k u
kind_as same_un means_un = means_un
kind_as same_unit means_unit = means_unit
kind_as (same_pair a b) (means_pair p q) = means_pair (kind_as a p) (kind_as b q)
kind_as (same_sum a b) (means_sum p q) = means_sum (kind_as a p) (kind_as b q)
kind_as (same_key a) (means_key p) = means_key (kind_as a p)
kind_as (same_nonce w) (means_nonce e h) = means_nonce e record { told = h.told; each = h.each; same = same_trans h.same w; once = h.once; order = h.order }

pub means_as : {s : Store} {i : ℕ} {t u : Ty} → SameTy t u → Means s i t → Means s i u
means_as w h = record { kind = h.kind; at = h.at; means = kind_as w h.means }

-- how large a type is
kind_sized : {ms : List Message} {ls : List (List AtomId)} {k : Kind} {t : Ty} → KindMeans ms ls k t → kind_size k ≡ ty_size t
kind_sized means_un = refl
kind_sized means_unit = refl
kind_sized (means_pair a b) = let x = kind_sized a in let y = kind_sized b in omega arith
kind_sized (means_sum a b) = let x = kind_sized a in let y = kind_sized b in omega arith
kind_sized (means_key a) = ap suc (kind_sized a)
kind_sized (means_nonce e h) = refl

pub means_size : (s : Store) (i : TyId) {t : Ty} → Means s i.place t → kind_size (kind_at s.types i) ≡ ty_size t
means_size s i h = ap (λ o. kind_size (or_un o)) h.at ∙ kind_sized h.means

pub given_keeps : {s r : Store} {i : ℕ} → Keeps s r → IsGiven s i → IsGiven r i
given_keeps k h = record { type = h.type; means = means_keeps k h.means }

pub size_of_kept : {s r : Store} (i : TyId) → Keeps s r → IsGiven s i.place → kind_size (kind_at r.types i) ≡ kind_size (kind_at s.types i)
size_of_kept {s} {r} i k h = means_size r i (means_keeps k h.means) ∙ sym (means_size s i h.means)

-- a type with two parts, and with one
pub record TwoTys (s : Store) (t a b : TyId) (f : Ty → Ty → Ty) : Type 0 where
  pub first : IsGiven s a.place
  pub second : IsGiven s b.place
  pub size : kind_size (kind_at s.types t) ≡ suc (kind_size (kind_at s.types a) + kind_size (kind_at s.types b))
  pub at : (u : Ty) → Means s t.place u → (v : Ty) × (w : Ty) × (u ≡ f v w) × Means s a.place v × Means s b.place w

pub record OneTy (s : Store) (t a : TyId) (f : Ty → Ty) : Type 0 where
  pub part : IsGiven s a.place
  pub size : kind_size (kind_at s.types t) ≡ suc (kind_size (kind_at s.types a))
  pub at : (u : Ty) → Means s t.place u → (v : Ty) × (u ≡ f v) × Means s a.place v

pair_parts : {s : Store} {a b : TyId} {u : Ty} → SaysTy s (Part.Pair a b) u → (v : Ty) × (w : Ty) × (u ≡ pair_ty v w) × Means s a.place v × Means s b.place w
pair_parts (says_pair {t = v} {u = w} m n) = (v, w, refl, m, n)

sum_parts : {s : Store} {a b : TyId} {u : Ty} → SaysTy s (Part.Sum a b) u → (v : Ty) × (w : Ty) × (u ≡ sum_ty v w) × Means s a.place v × Means s b.place w
sum_parts (says_sum {t = v} {u = w} m n) = (v, w, refl, m, n)

key_parts : {s : Store} {a : TyId} {u : Ty} → SaysTy s (Part.Key a) u → (v : Ty) × (u ≡ key v) × Means s a.place v
key_parts (says_key {t = v} m) = (v, refl, m)

nonce_parts : {s : Store} {ids : Bor (List AtomId)} {u : Ty} → SaysTy s (Part.Nonce ids) u → (es : Effect) × (u ≡ nonce es) × IdsMean s.messages ids.now es
nonce_parts (says_nonce {es = es} m) = (es, refl, m)

un_part : {s : Store} {u : Ty} → SaysTy s Part.Un u → u ≡ Term.un
un_part says_un = refl

unit_part : {s : Store} {u : Ty} → SaysTy s Part.Unit u → u ≡ unit_ty
unit_part says_unit = refl

two_tys_of : {s : Store} {t a b : TyId} (f : Ty → Ty → Ty) → ((v w : Ty) → ty_size (f v w) ≡ suc (ty_size v + ty_size w)) → ((u : Ty) → Means s t.place u → (v : Ty) × (w : Ty) × (u ≡ f v w) × Means s a.place v × Means s b.place w) → IsGiven s t.place → TwoTys s t a b f
two_tys_of {s} {t} {a} {b} f n h g =
    let w = h g.type g.means in
    record {
      first = record { type = w.0; means = w.3 };
      second = record { type = w.1; means = w.4 };
      size = means_size s t g.means ∙ ap ty_size w.2 ∙ n w.0 w.1 ∙ sym (λ i. suc (means_size s a w.3 i + means_size s b w.4 i));
      at = h;
    }

pub pair_ty_of : {s : Store} {t a b : TyId} → ((u : Ty) → Means s t.place u → SaysTy s (Part.Pair a b) u) → IsGiven s t.place → TwoTys s t a b pair_ty
pair_ty_of f g = two_tys_of pair_ty (λ v w. refl) (λ u m. pair_parts (f u m)) g

pub sum_ty_of : {s : Store} {t a b : TyId} → ((u : Ty) → Means s t.place u → SaysTy s (Part.Sum a b) u) → IsGiven s t.place → TwoTys s t a b sum_ty
sum_ty_of f g = two_tys_of sum_ty (λ v w. refl) (λ u m. sum_parts (f u m)) g

pub key_ty_of : {s : Store} {t a : TyId} → ((u : Ty) → Means s t.place u → SaysTy s (Part.Key a) u) → IsGiven s t.place → OneTy s t a key
key_ty_of {s} {t} {a} f g =
    let w = key_parts (f g.type g.means) in
    record {
      part = record { type = w.0; means = w.2 };
      size = means_size s t g.means ∙ ap ty_size w.1 ∙ ap suc (sym (means_size s a w.2));
      at = λ u m. key_parts (f u m);
    }

-- a Nonce type, its atoms and their effect
pub record NonceTy (s : Store) (t : TyId) (ids : List AtomId) : Type 0 where
  pub atoms : AtomsAreBelow ids (length s.messages)
  pub at : (u : Ty) → Means s t.place u → (es : Effect) × (u ≡ nonce es) × SameEffect (map (atom_at s.messages) ids) es

ids_effect : {ms : List Message} {ids : List AtomId} {es : Effect} → IdsMean ms ids es → SameEffect (map (atom_at ms) ids) es
ids_effect {es = es} h = subst (λ fs. SameEffect fs es) (told_are h.each) h.same

pub nonce_ty_of : {s : Store} {t : TyId} {ids : Bor (List AtomId)} → ((u : Ty) → Means s t.place u → SaysTy s (Part.Nonce ids) u) → IsGiven s t.place → NonceTy s t ids.now
nonce_ty_of {s} {t} {ids} f g =
    let w = nonce_parts (f g.type g.means) in
    record {
      atoms = told_below w.2.each;
      at = λ u m. let z = nonce_parts (f u m) in (z.0, z.1, ids_effect z.2);
    }

pub un_of : {s : Store} {t : TyId} → ((u : Ty) → Means s t.place u → SaysTy s Part.Un u) → (u : Ty) → Means s t.place u → u ≡ Term.un
un_of f u m = un_part (f u m)

pub unit_ty_of : {s : Store} {t : TyId} → ((u : Ty) → Means s t.place u → SaysTy s Part.Unit u) → (u : Ty) → Means s t.place u → u ≡ unit_ty
unit_ty_of f u m = unit_part (f u m)

-- what is given after a filling
pub fills_given : {s r : Store} {vs : List MsgId} {depth : ℕ} {t x : TyId} → ((d : ℕ) → d ≡ depth → IsDepth d depth) → FillsTy s r vs depth t x → IsGiven s t.place → IsGiven r x.place
fills_given {depth = depth} h f g = record { type = _; means = f.at depth g.type (h depth refl) g.means }

pub depth_stands : {depth : ℕ} → depth ≤ 2 ^ 32 → (d : ℕ) → d ≡ depth → IsDepth d depth
depth_stands h d e = omega arith

pub fills_un : {s : Store} {vs : List MsgId} {depth : ℕ} {t : TyId} → ((u : Ty) → Means s t.place u → u ≡ Term.un) → FillsTy s s vs depth t t
fills_un {s} {vs} {t = t} f = record { at = λ d u h m. subst (λ w. Means s t.place (ty_map (fill (values_of s.messages vs)) d w)) (sym (f u m)) (subst (Means s t.place) (f u m) m) }

pub fills_unit_ty : {s : Store} {vs : List MsgId} {depth : ℕ} {t : TyId} → ((u : Ty) → Means s t.place u → u ≡ unit_ty) → FillsTy s s vs depth t t
fills_unit_ty {s} {vs} {t = t} f = record { at = λ d u h m. subst (λ w. Means s t.place (ty_map (fill (values_of s.messages vs)) d w)) (sym (f u m)) (subst (Means s t.place) (f u m) m) }

pub later_fill : {s p q : Store} {vs : List MsgId} {depth : ℕ} {b y : TyId} {w : Ty} → Keeps s p → AreIdsBelow vs (length s.messages) → FillsTy p q vs depth b y → (d : ℕ) → IsDepth d depth → Means s b.place w → Means q y.place (ty_map (fill (values_of s.messages vs)) d w)
later_fill {s} {q = q} {vs = vs} {y = y} {w = w} k v g d h m = subst (λ us. Means q y.place (ty_map (fill us) d w)) (values_keep vs k.messages v) (g.at d w h (means_keeps k m))

pub fills_pair_ty : {E : Type 0} {s p q : Store} (r : Store) {vs : List MsgId} {depth deep : ℕ} {t a b x y : TyId} → TwoTys s t a b pair_ty → Keeps s p → AreIdsBelow vs (length s.messages) → FillsTy s p vs depth a x → ((d : ℕ) → IsDepth d depth → IsDepth (suc d) deep) → Keeps p q → FillsTy p q vs deep b y → (o : Result TyId E) → IfOk o (λ id. (v w : Ty) → Means q x.place v → Means q y.place w → Means r id.place (pair_ty v w)) → IfOk o (FillsTy s r vs depth t)
fills_pair_ty {s = s} r {vs = vs} t k v f n l g (Ok id) at = record {
  at = λ d u h m.
      let z = t.at u m in
      subst (λ w. Means r id.place (ty_map (fill (values_of s.messages vs)) d w)) (sym z.2) (at _ _ (means_keeps l (f.at d z.0 h z.3)) (later_fill k v g (suc d) (n d h) z.4));
}
fills_pair_ty r t k v f n l g (Err e) at = tt

pub fills_sum_ty : {E : Type 0} {s p q : Store} (r : Store) {vs : List MsgId} {depth : ℕ} {t a b x y : TyId} → TwoTys s t a b sum_ty → Keeps s p → AreIdsBelow vs (length s.messages) → FillsTy s p vs depth a x → Keeps p q → FillsTy p q vs depth b y → (o : Result TyId E) → IfOk o (λ id. (v w : Ty) → Means q x.place v → Means q y.place w → Means r id.place (sum_ty v w)) → IfOk o (FillsTy s r vs depth t)
fills_sum_ty {s = s} r {vs = vs} t k v f l g (Ok id) at = record {
  at = λ d u h m.
      let z = t.at u m in
      subst (λ w. Means r id.place (ty_map (fill (values_of s.messages vs)) d w)) (sym z.2) (at _ _ (means_keeps l (f.at d z.0 h z.3)) (later_fill k v g d h z.4));
}
fills_sum_ty r t k v f l g (Err e) at = tt

pub fills_key_ty : {E : Type 0} {s p : Store} (r : Store) {vs : List MsgId} {depth : ℕ} {t a x : TyId} → OneTy s t a key → FillsTy s p vs depth a x → (o : Result TyId E) → IfOk o (λ id. (v : Ty) → Means p x.place v → Means r id.place (key v)) → IfOk o (FillsTy s r vs depth t)
fills_key_ty {s = s} r {vs = vs} t f (Ok id) at = record {
  at = λ d u h m.
      let z = t.at u m in
      subst (λ w. Means r id.place (ty_map (fill (values_of s.messages vs)) d w)) (sym z.1) (at _ (f.at d z.0 h z.2));
}
fills_key_ty r t f (Err e) at = tt

pub fills_nonce_ty : {E : Type 0} {s : Store} (p r : Store) {vs : List MsgId} {depth : ℕ} {t : TyId} {ids js rs : List AtomId} → NonceTy s t ids → js ≡ ids → FillsAtoms s.messages p.messages vs depth js rs → (o : Result TyId E) → IfOk o (λ id. (es : Effect) → TellsAll (SaysAtom p.messages) rs es → Means r id.place (nonce es)) → IfOk o (FillsTy s r vs depth t)
fills_nonce_ty {s = s} p r {vs = vs} {ids = ids} {rs = rs} t e f (Ok id) at = record {
  at = λ d u h m.
      let z = t.at u m in
      let g = fill (values_of s.messages vs) in
      let told : TellsAll (SaysAtom p.messages) rs (effect_map (g d) (map (atom_at s.messages) ids)) = subst (λ us. TellsAll (SaysAtom p.messages) rs (effect_map (g d) (map (atom_at s.messages) us))) e (f.at d h) in
      subst (λ w. Means r id.place (ty_map g d w)) (sym z.1) (means_as (same_nonce (same_map (g d) (map (atom_at s.messages) ids) z.0 z.2)) (at _ told));
}
fills_nonce_ty p r t e f (Err x) at = tt

pub given_atoms : {ms ns : List Message} {vs : List MsgId} {depth : ℕ} {xs rs : List AtomId} → depth ≤ 2 ^ 32 → FillsAtoms ms ns vs depth xs rs → AreGiven ns rs
given_atoms {depth = depth} h f = record { effect = _; each = f.at depth (omega arith) }
