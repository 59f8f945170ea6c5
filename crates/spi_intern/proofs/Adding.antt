-- What is new after one call, and after another.
use Rattle.std.proofs.Common.{◌≡◌, ℕ, ◌<◌, Bool, true, false, if◌then◌else◌, List, [], ◌∷◌, ◌++◌, Some, slice_get, length, refl, sym, ap, subst, ◌∙◌, ◌⊎◌, inl, inr, ⊎_elim, Result, Ok, Err, OnOk}
use Rattle.std.proofs.lemmas.Option.{slice_get_within}
use Rattle.spi_intern.specs.Messages.{interned}
use Rattle.std.specs.List.{list_any}
use Rattle.spi_term.specs.Term.{Message, Atom, Effect, Ty, un, unit_ty, pair_ty, sum_ty, key, nonce}
use Rattle.spi_term.proofs.Lists.{get_some}
use Rattle.spi_intern.specs.Table.{KeepsAll, with_value}
use Rattle.spi_intern.specs.Kinds.{Kind, same_kind}
use Rattle.spi_intern.specs.Typed.{said_kind}
use Rattle.spi_intern.specs.declared.types.TyNode.{TyNode}
use Rattle.spi_intern.specs.declared.store.Store.{Store}
use Rattle.spi_intern.specs.Meaning.{KindMeans, Means, Keeps}
use Rattle.spi_intern.specs.Parts.{PartOf, message_of, InEffect, in_first, in_later, InTy, in_pair_first, in_pair_second, in_sum_left, in_sum_right, in_key, in_nonce, TyPartOf, whole_ty, of_pair_first, of_pair_second, of_sum_left, of_sum_right, of_payload}
use Rattle.spi_intern.specs.Growing.{Has, HasTy, AddsMessages, AddsTypes, Adds, a_message, a_type, over_types}
use Rattle.spi_intern.proofs.Lists.{get_push}
use Rattle.spi_intern.proofs.Grown.{has_kept, interned_adds}
use Rattle.spi_intern.proofs.Meanings.{NodeMeans, means_keeps, kind_keeps}
use Rattle.spi_intern.proofs.TyLaws.{says_said}

pub adds_none : {ms ns : List Message} → ns ≡ ms → AddsMessages ms ns (λ x. ⊥)
adds_none e = record { all = λ x h. absurd h; only = λ x h. inl (subst (λ zs. Has zs x) e h) }

pub adds_more : {ks bs cs : List Message} {M N : Message → Type 0} → AddsMessages ks bs M → KeepsAll bs cs → AddsMessages bs cs N → AddsMessages ks cs (λ x. M x ⊎ N x)
adds_more f k g = record {
  all = λ x h. ⊎_elim (λ m. has_kept k (f.all x m)) (λ n. g.all x n) h;
  only = λ x h. ⊎_elim (λ b. ⊎_elim inl (λ m. inr (inl m)) (f.only x b)) (λ n. inr (inr n)) (g.only x h);
}

pub adds_as : {ks bs : List Message} {M N : Message → Type 0} → ((x : Message) → M x → N x) → ((x : Message) → N x → M x) → AddsMessages ks bs M → AddsMessages ks bs N
adds_as p q f = record { all = λ x n. f.all x (q x n); only = λ x h. ⊎_elim inl (λ m. inr (p x m)) (f.only x h) }

has_ty_kept : {s r : Store} {u : Ty} → Keeps s r → HasTy s u → HasTy r u
has_ty_kept k h = record { place = h.place; means = means_keeps k h.means }

pub types_none : {s r : Store} → r.types ≡ s.types → AddsTypes s r (λ u. ⊥)
types_none e = record { all = λ u h. absurd h; only = λ i h. inl (subst (λ zs. i < length zs) e h) }

pub types_more : {s q r : Store} {T U : Ty → Type 0} → AddsTypes s q T → Keeps q r → AddsTypes q r U → AddsTypes s r (λ u. T u ⊎ U u)
types_more f k g = record {
  all = λ u h. ⊎_elim (λ t. has_ty_kept k (f.all u t)) (λ w. g.all u w) h;
  only = λ i h. ⊎_elim (λ b. ⊎_elim inl (λ w. inr (w.0, inl w.1, means_keeps k w.2)) (f.only i b)) (λ w. inr (w.0, inr w.1, w.2)) (g.only i h);
}

pub types_as : {s r : Store} {T U : Ty → Type 0} → ((u : Ty) → T u → U u) → ((u : Ty) → U u → T u) → AddsTypes s r T → AddsTypes s r U
types_as p q f = record { all = λ u n. f.all u (q u n); only = λ i h. ⊎_elim inl (λ w. inr (w.0, p w.0 w.1, w.2)) (f.only i h) }

-- one type is put
pub types_put : {s r : Store} (i : ℕ) {k : Kind} {t : Ty} → r.types ≡ with_value same_kind s.types k → slice_get r.types i ≡ Some k → KindMeans r.messages r.effects k t → AddsTypes s r (λ u. u ≡ t)
types_put {s} {r} i {k} {t} e at m = record { all = all; only = only }
  where
    mean : (j : ℕ) → slice_get r.types j ≡ Some k → Means r j t
    mean j f = record { kind = k; at = f; means = m }

    all : (u : Ty) → u ≡ t → HasTy r u
    all u f = record { place = i; means = subst (Means r i) (sym f) (mean i at) }

    by : (b : Bool) (j : ℕ) (x : Kind) → slice_get (if b then s.types else s.types ++ k ∷ []) j ≡ Some x → (j < length s.types) ⊎ (x ≡ k)
    by true j x f = inl (slice_get_within s.types j x f)
    by false j x f = ⊎_elim (λ g. inl (slice_get_within s.types j x g)) (λ g. inr g.1) (get_push s.types k j x f)

    only : (j : ℕ) → j < length r.types → (j < length s.types) ⊎ ((u : Ty) × (u ≡ t) × Means r j u)
    only j h =
        let w = get_some r.types j h in
        ⊎_elim inl (λ f. inr (t, refl, mean j (w.1 ∙ ap Some f))) (by (list_any (same_kind k) s.types) j w.0 (ap (λ zs. slice_get zs j) (sym e) ∙ w.1))

-- a type whose node is put
pub put_node : {s r : Store} (i : ℕ) {n : TyNode} {t : Ty} → Keeps s r → NodeMeans s n t → slice_get r.types i ≡ Some (said_kind s.types n) → r.types ≡ with_value same_kind s.types (said_kind s.types n) → AddsTypes s r (λ u. u ≡ t)
put_node {s} i {n} l h at e =
    let w : said_kind s.types n ≡ h.kind = says_said s.types n h.kind h.says in
    types_put i (e ∙ ap (with_value same_kind s.types) w) (at ∙ ap Some w) (kind_keeps l.messages l.effects h.means)

-- a message is interned
pub message_adds : {A E : Type 0} (s r : Store) (m : Message) → r.types ≡ s.types → (o : Result A E) → OnOk o (r.messages ≡ interned s.messages m) → OnOk o (Adds s r (a_message m))
message_adds s r m e (Ok x) h = record { messages = interned_adds s.messages r.messages m h; types = types_none e }
message_adds s r m e (Err x) h = tt

-- a type without parts
data IsLeaf : Ty → Type 0 where
  un_leaf : IsLeaf un
  unit_leaf : IsLeaf unit_ty

adds_leaf : {s r : Store} {t : Ty} → IsLeaf t → r.messages ≡ s.messages → AddsTypes s r (λ u. u ≡ t) → Adds s r (a_type t)
adds_leaf {t = t} l e h = record { messages = adds_as (λ x p. absurd p) (none l) (adds_none e); types = types_as (λ u f. subst (λ v. TyPartOf v t) (sym f) whole_ty) (part l) h }
  where
    none : {z : Ty} → IsLeaf z → (x : Message) → InTy x z → ⊥
    none un_leaf x i = elim i [ ]
    none unit_leaf x i = elim i [ ]

    part : {z : Ty} → IsLeaf z → (u : Ty) → TyPartOf u z → u ≡ z
    part un_leaf u whole_ty = refl
    part unit_leaf u whole_ty = refl

-- each constructor of a type
pub adds_un : {s r : Store} → r.messages ≡ s.messages → AddsTypes s r (λ u. u ≡ un) → Adds s r (a_type un)
adds_un e h = adds_leaf un_leaf e h

pub adds_unit : {s r : Store} → r.messages ≡ s.messages → AddsTypes s r (λ u. u ≡ unit_ty) → Adds s r (a_type unit_ty)
adds_unit e h = adds_leaf unit_leaf e h

-- the messages stay where a type is put on top
rest_of : {ks bs cs : List Message} {M : Message → Type 0} → AddsMessages ks bs M → cs ≡ bs → AddsMessages ks cs M
rest_of {ks} {M = M} f e = subst (λ zs. AddsMessages ks zs M) (sym e) f

-- and where nothing but types is put
beside : {ks bs cs : List Message} {M : Message → Type 0} → AddsMessages ks bs M → KeepsAll bs cs → AddsMessages bs cs (λ x. ⊥) → AddsMessages ks cs M
beside f k g = adds_as (λ x h. ⊎_elim (λ m. m) (λ n. absurd n) h) (λ x m. inl m) (adds_more f k g)

-- a type over two others
data IsOverTwo (t u : Ty) : Ty → Type 0 where
  pair_over_two : IsOverTwo t u (pair_ty t u)
  sum_over_two : IsOverTwo t u (sum_ty t u)

adds_over_two : {s p q r : Store} {t u v : Ty} → IsOverTwo t u v → Adds s p (a_type t) → Keeps p q → Adds p q (a_type u) → Keeps q r → Adds q r (over_types v) → Adds s r (a_type v)
adds_over_two {t = t} {u = u} o f k g l h = record {
  messages = beside (adds_as (to o) (from o) (adds_more f.messages k.messages g.messages)) l.messages h.messages;
  types = types_as (up o) (down o) (types_more (types_more f.types k g.types) l h.types);
}
  where
    to : {z : Ty} → IsOverTwo t u z → (x : Message) → InTy x t ⊎ InTy x u → InTy x z
    to pair_over_two x (inl a) = in_pair_first a
    to pair_over_two x (inr b) = in_pair_second b
    to sum_over_two x (inl a) = in_sum_left a
    to sum_over_two x (inr b) = in_sum_right b

    from : {z : Ty} → IsOverTwo t u z → (x : Message) → InTy x z → InTy x t ⊎ InTy x u
    from pair_over_two x (in_pair_first a) = inl a
    from pair_over_two x (in_pair_second b) = inr b
    from sum_over_two x (in_sum_left a) = inl a
    from sum_over_two x (in_sum_right b) = inr b

    up : {z : Ty} → IsOverTwo t u z → (w : Ty) → (TyPartOf w t ⊎ TyPartOf w u) ⊎ (w ≡ z) → TyPartOf w z
    up pair_over_two w (inl (inl a)) = of_pair_first a
    up pair_over_two w (inl (inr b)) = of_pair_second b
    up sum_over_two w (inl (inl a)) = of_sum_left a
    up sum_over_two w (inl (inr b)) = of_sum_right b
    up {z = z} _ w (inr y) = subst (λ x. TyPartOf x z) (sym y) whole_ty

    down : {z : Ty} → IsOverTwo t u z → (w : Ty) → TyPartOf w z → (TyPartOf w t ⊎ TyPartOf w u) ⊎ (w ≡ z)
    down pair_over_two w whole_ty = inr refl
    down pair_over_two w (of_pair_first a) = inl (inl a)
    down pair_over_two w (of_pair_second b) = inl (inr b)
    down sum_over_two w whole_ty = inr refl
    down sum_over_two w (of_sum_left a) = inl (inl a)
    down sum_over_two w (of_sum_right b) = inl (inr b)

pub adds_pair : {s p q r : Store} {t u : Ty} → Adds s p (a_type t) → Keeps p q → Adds p q (a_type u) → Keeps q r → Adds q r (over_types (pair_ty t u)) → Adds s r (a_type (pair_ty t u))
adds_pair f k g l h = adds_over_two pair_over_two f k g l h

pub adds_sum : {s p q r : Store} {t u : Ty} → Adds s p (a_type t) → Keeps p q → Adds p q (a_type u) → Keeps q r → Adds q r (over_types (sum_ty t u)) → Adds s r (a_type (sum_ty t u))
adds_sum f k g l h = adds_over_two sum_over_two f k g l h

pub adds_key : {s q r : Store} {t : Ty} → Adds s q (a_type t) → Keeps q r → Adds q r (over_types (key t)) → Adds s r (a_type (key t))
adds_key {t = t} f l h = record {
  messages = beside (adds_as (λ x a. in_key a) from f.messages) l.messages h.messages;
  types = types_as up down (types_more f.types l h.types);
}
  where
    from : (x : Message) → InTy x (key t) → InTy x t
    from x (in_key a) = a

    up : (v : Ty) → TyPartOf v t ⊎ (v ≡ key t) → TyPartOf v (key t)
    up v (inl a) = of_payload a
    up v (inr w) = subst (λ z. TyPartOf z (key t)) (sym w) whole_ty

    down : (v : Ty) → TyPartOf v (key t) → TyPartOf v t ⊎ (v ≡ key t)
    down v whole_ty = inr refl
    down v (of_payload a) = inl a

pub adds_nonce : {s q r : Store} {es : Effect} → AddsMessages s.messages q.messages (λ x. InEffect x es) → q.types ≡ s.types → Keeps q r → r.messages ≡ q.messages → AddsTypes q r (λ v. v ≡ nonce es) → Adds s r (a_type (nonce es))
adds_nonce {es = es} f w l e h = record {
  messages = rest_of (adds_as (λ x a. in_nonce a) from f) e;
  types = types_as up down (types_more (types_none w) l h);
}
  where
    from : (x : Message) → InTy x (nonce es) → InEffect x es
    from x (in_nonce a) = a

    up : (v : Ty) → ⊥ ⊎ (v ≡ nonce es) → TyPartOf v (nonce es)
    up v (inl a) = absurd a
    up v (inr z) = subst (λ y. TyPartOf y (nonce es)) (sym z) whole_ty

    down : (v : Ty) → TyPartOf v (nonce es) → ⊥ ⊎ (v ≡ nonce es)
    down v whole_ty = inr refl

-- one more atom
in_push : (x : Message) (es : Effect) (a : Atom) → InEffect x es ⊎ PartOf x (message_of a) → InEffect x (es ++ a ∷ [])
in_push x [] a (inl h) = elim h [ ]
in_push x [] a (inr p) = in_first p
in_push x (e ∷ es) a (inl (in_first p)) = in_first p
in_push x (e ∷ es) a (inl (in_later h)) = in_later (in_push x es a (inl h))
in_push x (e ∷ es) a (inr p) = in_later (in_push x es a (inr p))

in_pushed : (x : Message) (es : Effect) (a : Atom) → InEffect x (es ++ a ∷ []) → InEffect x es ⊎ PartOf x (message_of a)
in_pushed x [] a (in_first p) = inr p
in_pushed x [] a (in_later h) = elim h [ ]
in_pushed x (e ∷ es) a (in_first p) = inl (in_first p)
in_pushed x (e ∷ es) a (in_later h) = ⊎_elim (λ g. inl (in_later g)) inr (in_pushed x es a h)

pub adds_atom : {ks bs cs : List Message} (es : Effect) (a : Atom) → AddsMessages ks bs (λ x. InEffect x es) → KeepsAll bs cs → AddsMessages bs cs (λ x. PartOf x (message_of a)) → AddsMessages ks cs (λ x. InEffect x (es ++ a ∷ []))
adds_atom es a f k g = adds_as (λ x h. in_push x es a h) (λ x h. in_pushed x es a h) (adds_more f k g)

pub adds_no_atom : {ms ns : List Message} → ns ≡ ms → AddsMessages ms ns (λ x. InEffect x [])
adds_no_atom e = adds_as (λ x p. absurd p) none (adds_none e)
  where
    none : (x : Message) → InEffect x [] → ⊥
    none x h = elim h [ ]
