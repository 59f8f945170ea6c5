-- What filling the indices of messages and types adds to a store.
use Rattle.std.proofs.Common.{◌≡◌, ℕ, suc, ◌<◌, ◌≤◌, List, [], ◌∷◌, ◌++◌, map, Some, None, length, refl, sym, ap, subst, ◌∙◌, ◌⊎◌, inl, inr, ⊎_elim, Result, Ok, Err, OnOk}
use Rattle.std.specs.Prelude.{option_map}
use Rattle.spi_term.specs.Term.{Message, bound, name, unit, pair, in_left, in_right, enc, hash, Atom, Effect, Ty, un, unit_ty, pair_ty, sum_ty, key, nonce}
use Rattle.spi_term.specs.Counts.{SameEffect}
use Rattle.spi_term.specs.SameTy.{same_nonce}
use Rattle.spi_term.specs.Lists.{In, in_first as first_of, in_later as later_of}
use Rattle.spi_term.specs.Substitution.{atom_map, effect_map, ty_map}
use Rattle.spi_term.proofs.Counting.{same_sym, in_tally, tally_in, count_tally}
use Rattle.spi_effect.proofs.Laws.{same_map}
use Rattle.spi_intern.specs.Table.{KeepsAll, TellsAll}
use Rattle.spi_intern.specs.Messages.{Says, message_at}
use Rattle.spi_intern.specs.Atoms.{SaysAtom}
use Rattle.spi_intern.specs.Meaning.{Means, Keeps}
use Rattle.spi_intern.specs.Parts.{PartOf, whole, of_first, of_second, of_left, of_right, of_body, of_key, of_hash, message_of, InEffect, in_first, in_later, InTy, in_pair_first, in_pair_second, in_sum_left, in_sum_right, in_key, in_nonce, TyPartOf, whole_ty, of_pair_first, of_pair_second, of_sum_left, of_sum_right, of_payload}
use Rattle.spi_intern.specs.Growing.{HasTy, AddsMessages, AddsTypes, Adds, a_message, a_type, over_messages, over_types}
use Rattle.spi_intern.specs.declared.messages.MsgId.{MsgId}
use Rattle.spi_intern.specs.declared.messages.MsgPart.{MsgPart}
use Rattle.spi_intern.specs.declared.messages.MsgPart.TheVariants.{Pair, Inl, Inr, Enc, Hash}
use Rattle.spi_intern.specs.declared.types.TyId.{TyId}
use Rattle.spi_intern.specs.declared.atoms.AtomId.{AtomId}
use Rattle.spi_intern.specs.declared.atoms.AtomId.TheVariants.{End, Check, Many}
use Rattle.spi_intern.specs.declared.store.Store.{Store}
use Rattle.spi_intern.proofs.Grown.{has_kept}
use Rattle.spi_intern.proofs.Meanings.{means_keeps}
use Rattle.spi_intern.proofs.Adding.{adds_none, adds_more, adds_as, types_none, types_more, types_as, adds_atom, adds_no_atom}
use Rattle.spi_intern.proofs.Sized.{TwoOf, OneOf, SaysTwo, SaysOne, pair_is_two, enc_is_two, left_is_one, right_is_one, hash_is_one, at_message, message_there}
use Rattle.spi_message.specs.Filling.{value_of, or_bound, fill, values_of, atom_at, message_in, AreIdsBelow, IsDepth, FillsMessage, FillsAtoms, FillsTy}
use Rattle.spi_message.specs.Giving.{HasParts}
use Rattle.spi_message.specs.Added.{AllHaveParts, MessageIsAdded, AtomsAreAdded, TypeIsAdded}
use Rattle.spi_message.proofs.Fills.{message_keeps, values_keep, two_values, values_at, value_mapped, value_in, fills_value}
use Rattle.spi_message.proofs.FillsTypes.{TwoTys, OneTy, NonceTy, means_as, effect_push, later_fill}

-- ---- what has numbers keeps them

pub parts_keep : {ms ns : List Message} {m : Message} → KeepsAll ms ns → HasParts ms m → HasParts ns m
parts_keep k h = record { each = λ x p. has_kept k (h.each x p) }

pub all_parts_keep : {ms ns : List Message} {vs : List MsgId} → KeepsAll ms ns → AreIdsBelow vs (length ms) → AllHaveParts ms (values_of ms vs) → AllHaveParts ns (values_of ns vs)
all_parts_keep {ms} {ns} {vs} k b h = subst (AllHaveParts ns) (sym (values_keep vs k b)) record { at = λ i v e. parts_keep k (h.at i v e) }

no_types : {s q r : Store} → AddsTypes s q (λ u. ⊥) → Keeps q r → AddsTypes q r (λ u. ⊥) → AddsTypes s r (λ u. ⊥)
no_types f k g = types_as (λ u h. ⊎_elim (λ x. x) (λ x. x) h) (λ u h. absurd h) (types_more f k g)

-- ---- messages

-- nothing is new
pub same_adds : {s : Store} {m : Message} → HasParts s.messages m → Adds s s (a_message m)
same_adds h = record {
  messages = record { all = λ x p. h.each x p; only = λ x g. inl g };
  types = types_none refl;
}

-- P of a message that stands right below the outermost constructor
abbrev OfMessageParts : (Message → Type 0) → Message → Type 0
OfMessageParts P (pair a b) = P a ⊎ P b
OfMessageParts P (enc a b) = P a ⊎ P b
OfMessageParts P (in_left a) = P a
OfMessageParts P (in_right a) = P a
OfMessageParts P (hash a) = P a
OfMessageParts P _ = ⊥

message_parts : {x m : Message} → PartOf x m → OfMessageParts (PartOf x) m ⊎ (x ≡ m)
message_parts whole = inr refl
message_parts (of_first p) = inl (inl p)
message_parts (of_second p) = inl (inr p)
message_parts (of_left p) = inl p
message_parts (of_right p) = inl p
message_parts (of_body p) = inl (inl p)
message_parts (of_key p) = inl (inr p)
message_parts (of_hash p) = inl p

-- a message over two parts, or one, and the part that says it
pub record Joins (f : Message → Message → Message) (part : MsgId → MsgId → MsgPart) : Type 0 where
  pub split : (x a b : Message) → PartOf x (f a b) → (PartOf x a ⊎ PartOf x b) ⊎ (x ≡ f a b)
  pub first : (x a b : Message) → PartOf x a → PartOf x (f a b)
  pub second : (x a b : Message) → PartOf x b → PartOf x (f a b)
  pub put : SaysTwo f part
  pub fills : (vs : List Message) (d : ℕ) (a b : Message) → fill vs d (f a b) ≡ f (fill vs d a) (fill vs d b)

pub record Wraps (f : Message → Message) (part : MsgId → MsgPart) : Type 0 where
  pub split : (x a : Message) → PartOf x (f a) → PartOf x a ⊎ (x ≡ f a)
  pub inner : (x a : Message) → PartOf x a → PartOf x (f a)
  pub put : SaysOne f part
  pub fills : (vs : List Message) (d : ℕ) (a : Message) → fill vs d (f a) ≡ f (fill vs d a)

pub pair_joins : Joins pair Pair
pair_joins = record { split = λ x a b p. message_parts p; first = λ x a b p. of_first p; second = λ x a b p. of_second p; put = pair_is_two; fills = λ vs d a b. refl }

pub enc_joins : Joins enc Enc
enc_joins = record { split = λ x a b p. message_parts p; first = λ x a b p. of_body p; second = λ x a b p. of_key p; put = enc_is_two; fills = λ vs d a b. refl }

pub left_wraps : Wraps in_left Inl
left_wraps = record { split = λ x a p. message_parts p; inner = λ x a p. of_left p; put = left_is_one; fills = λ vs d a. refl }

pub right_wraps : Wraps in_right Inr
right_wraps = record { split = λ x a p. message_parts p; inner = λ x a p. of_right p; put = right_is_one; fills = λ vs d a. refl }

pub hash_wraps : Wraps hash Hash
hash_wraps = record { split = λ x a p. message_parts p; inner = λ x a p. of_hash p; put = hash_is_one; fills = λ vs d a. refl }

adds_two : {s p q r : Store} {a b : Message} (f : Message → Message → Message) {part : MsgId → MsgId → MsgPart} → Joins f part → Adds s p (a_message a) → Keeps p q → Adds p q (a_message b) → Keeps q r → Adds q r (over_messages (f a b)) → Adds s r (a_message (f a b))
adds_two {a = a} {b = b} f j g k h l o = record {
  messages = adds_as to (λ x m. j.split x a b m) (adds_more (adds_more g.messages k.messages h.messages) l.messages o.messages);
  types = no_types (no_types g.types k h.types) l o.types;
}
  where
    to : (x : Message) → (PartOf x a ⊎ PartOf x b) ⊎ (x ≡ f a b) → PartOf x (f a b)
    to x (inl (inl m)) = j.first x a b m
    to x (inl (inr m)) = j.second x a b m
    to x (inr e) = subst (λ y. PartOf y (f a b)) (sym e) whole

adds_one : {s p r : Store} {a : Message} (f : Message → Message) {part : MsgId → MsgPart} → Wraps f part → Adds s p (a_message a) → Keeps p r → Adds p r (over_messages (f a)) → Adds s r (a_message (f a))
adds_one {a = a} f j g l o = record {
  messages = adds_as to (λ x m. j.split x a m) (adds_more g.messages l.messages o.messages);
  types = no_types g.types l o.types;
}
  where
    to : (x : Message) → PartOf x a ⊎ (x ≡ f a) → PartOf x (f a)
    to x (inl m) = j.inner x a m
    to x (inr e) = subst (λ y. PartOf y (f a)) (sym e) whole

-- a part that is filled over a store that has grown
later_added : {s p q : Store} {vs : List MsgId} {depth : ℕ} {b : MsgId} → Keeps s p → AreIdsBelow vs (length s.messages) → b.place < length s.messages → MessageIsAdded p q vs depth b → (d : ℕ) → IsDepth d depth → AllHaveParts s.messages (values_of s.messages vs) → Adds p q (a_message (fill (values_of s.messages vs) d (message_at s.messages b)))
later_added {s} {p} {q} {vs} {b = b} k v w g d e h =
    subst (λ m. Adds p q (a_message m)) (λ i. fill (values_keep vs k.messages v i) d (message_keeps b k.messages w i)) (g.at d e (all_parts_keep k.messages v h))

pub added_two : {E : Type 0} {s p q : Store} (r : Store) {c : Message → Message → Message} {part : MsgId → MsgId → MsgPart} {vs : List MsgId} {depth : ℕ} {m a b x y : MsgId} → Joins c part → TwoOf s.messages m a b c → Keeps s p → AreIdsBelow vs (length s.messages) → FillsMessage s.messages p.messages vs depth a x → MessageIsAdded s p vs depth a → Keeps p q → FillsMessage p.messages q.messages vs depth b y → MessageIsAdded p q vs depth b → Keeps q r → (o : Result MsgId E) → OnOk o ((n : Message) → Says q.messages (part x y) n → Adds q r (over_messages n)) → OnOk o (MessageIsAdded s r vs depth m)
added_two {s = s} r {c = c} {vs = vs} {x = x} {y = y} i t k v f fa l g ga w (Ok id) h = record {
  at = λ d e b.
      let z = two_values k.messages v t.second f l.messages g d e in
      subst (λ n. Adds s r (a_message n)) (sym (i.fills _ d _ _) ∙ ap (fill (values_of s.messages vs) d) t.is) (adds_two c i (fa.at d e b) l (later_added k v t.second ga d e b) w (h _ (i.put.says _ x y _ _ z.0 z.1)));
}
added_two r i t k v f fa l g ga w (Err e) h = tt

pub added_one : {E : Type 0} {s p : Store} (r : Store) {c : Message → Message} {part : MsgId → MsgPart} {vs : List MsgId} {depth : ℕ} {m a x : MsgId} → Wraps c part → OneOf s.messages m a c → FillsMessage s.messages p.messages vs depth a x → MessageIsAdded s p vs depth a → Keeps p r → (o : Result MsgId E) → OnOk o ((n : Message) → Says p.messages (part x) n → Adds p r (over_messages n)) → OnOk o (MessageIsAdded s r vs depth m)
added_one {s = s} r {c = c} {vs = vs} {x = x} i t f fa w (Ok id) h = record {
  at = λ d e b. subst (λ n. Adds s r (a_message n)) (sym (i.fills _ d _) ∙ ap (fill (values_of s.messages vs) d) t.is) (adds_one c i (fa.at d e b) w (h _ (i.put.says _ x _ (f.at d e))));
}
added_one r i t f fa w (Err e) h = tt

-- a message without parts, which stays
added_leaf : {s : Store} {vs : List MsgId} {depth : ℕ} {m : MsgId} (n : Message) → m.place < length s.messages → message_at s.messages m ≡ n → ((d : ℕ) → IsDepth d depth → fill (values_of s.messages vs) d n ≡ n) → ((y : Message) → OfMessageParts (PartOf y) n → ⊥) → MessageIsAdded s s vs depth m
added_leaf {s} {vs} {m = m} n l e f g = record {
  at = λ d w h.
      let q : fill (values_of s.messages vs) d (message_at s.messages m) ≡ n = ap (fill (values_of s.messages vs) d) e ∙ f d w in
      same_adds record { each = λ y p. record { place = m.place; at = message_there s.messages m l ∙ ap Some (e ∙ sym (⊎_elim (λ z. absurd (g y z)) (λ w. w) (message_parts (subst (PartOf y) q p)))) } };
}

pub added_name : {s : Store} {vs : List MsgId} {depth x : ℕ} {m : MsgId} → m.place < length s.messages → message_at s.messages m ≡ name x → MessageIsAdded s s vs depth m
added_name {x = x} l e = added_leaf (name x) l e (λ d w. refl) (λ y p. p)

pub added_unit : {s : Store} {vs : List MsgId} {depth : ℕ} {m : MsgId} → m.place < length s.messages → message_at s.messages m ≡ unit → MessageIsAdded s s vs depth m
added_unit l e = added_leaf unit l e (λ d w. refl) (λ y p. p)

pub added_bound : {s : Store} {vs : List MsgId} {depth i : ℕ} {m : MsgId} → m.place < length s.messages → message_at s.messages m ≡ bound i → ((d : ℕ) → IsDepth d depth → None ≡ value_of vs d i) → MessageIsAdded s s vs depth m
added_bound {s} {vs} {i = i} l e f =
    added_leaf (bound i) l e (λ d w. ap (or_bound i) (value_mapped s.messages vs d i ∙ ap (option_map (message_at s.messages)) (sym (f d w)))) (λ y p. p)

-- a value, which has its parts
pub added_value : {s : Store} {vs : List MsgId} {depth i : ℕ} {m v : MsgId} → message_at s.messages m ≡ bound i → AreIdsBelow vs (length s.messages) → ((d : ℕ) → IsDepth d depth → Some v ≡ value_of vs d i) → MessageIsAdded s s vs depth m
added_value {s} {vs} {i = i} {m = m} {v = v} e b f = record {
  at = λ d w h.
      let k = value_in vs d i v (sym (f d w)) in
      let p = h.at k.0 (message_at s.messages v) (values_at s.messages vs k.0 ∙ ap (option_map (message_at s.messages)) k.1) in
      let q : FillsMessage s.messages s.messages vs _ m v = fills_value e b f in
      same_adds (subst (HasParts s.messages) (at_message s.messages v (q.at d w)) p);
}

-- ---- atoms

pub atom_added : {s p : Store} {vs : List MsgId} {depth : ℕ} (a : AtomId) {m : MsgId} → m ≡ message_in a → MessageIsAdded s p vs depth m → MessageIsAdded s p vs depth (message_in a)
atom_added {s} {p} {vs} {depth} a e h = subst (MessageIsAdded s p vs depth) e h

pub no_atoms_added : {s : Store} {vs : List MsgId} {depth : ℕ} → AtomsAreAdded s s vs depth []
no_atoms_added = record { messages = λ d e h. adds_no_atom refl; types = λ d e h. types_none refl }

pub message_of_atom : (f : Message → Message) (ms : List Message) (a : AtomId) → message_of (atom_map f (atom_at ms a)) ≡ f (message_at ms (message_in a))
message_of_atom f ms (End m) = refl
message_of_atom f ms (Check m) = refl
message_of_atom f ms (Many m) = refl

pub next_atom_added : {s p q : Store} {vs : List MsgId} {depth : ℕ} {xs ys : List AtomId} (a : AtomId) → Keeps s p → AreIdsBelow vs (length s.messages) → (message_in a).place < length s.messages → AtomsAreAdded s p vs depth xs → Keeps p q → MessageIsAdded p q vs depth (message_in a) → ys ≡ xs ++ a ∷ [] → AtomsAreAdded s q vs depth ys
next_atom_added {s} {p} {q} {vs} {depth} {xs} {ys} a k v w f l g e = subst (AtomsAreAdded s q vs depth) (sym e) record {
  messages = λ d i h.
      let fs = fill (values_of s.messages vs) d in
      let n = later_added k v w g d i h in
      let m = subst (λ x. AddsMessages p.messages q.messages (λ y. PartOf y x)) (sym (message_of_atom fs s.messages a)) n.messages in
      subst (λ es. AddsMessages s.messages q.messages (λ x. InEffect x es)) (sym (effect_push fs (atom_at s.messages) xs a)) (adds_atom (effect_map fs (map (atom_at s.messages) xs)) (atom_map fs (atom_at s.messages a)) (f.messages d i h) l.messages m);
  types = λ d i h. no_types (f.types d i h) l (later_added k v w g d i h).types;
}

-- ---- types

-- P of a type, and M of an effect, that stand right below the outermost constructor of a type
abbrev OfParts : (Ty → Type 0) → (Effect → Type 0) → Ty → Type 0
OfParts P M (pair_ty t u) = P t ⊎ P u
OfParts P M (sum_ty t u) = P t ⊎ P u
OfParts P M (key t) = P t
OfParts P M (nonce es) = M es
OfParts P M _ = ⊥

in_parts : {x : Message} {w : Ty} → InTy x w → OfParts (InTy x) (InEffect x) w
in_parts (in_pair_first h) = inl h
in_parts (in_pair_second h) = inr h
in_parts (in_sum_left h) = inl h
in_parts (in_sum_right h) = inr h
in_parts (in_key h) = h
in_parts (in_nonce h) = h

from_parts : {x : Message} (w : Ty) → OfParts (InTy x) (InEffect x) w → InTy x w
from_parts (pair_ty t u) h = ⊎_elim (λ a. in_pair_first a) (λ b. in_pair_second b) h
from_parts (sum_ty t u) h = ⊎_elim (λ a. in_sum_left a) (λ b. in_sum_right b) h
from_parts (key t) h = in_key h
from_parts (nonce es) h = in_nonce h
from_parts _ h = absurd h

ty_parts : {v w : Ty} → TyPartOf v w → OfParts (TyPartOf v) (λ es. ⊥) w ⊎ (v ≡ w)
ty_parts whole_ty = inr refl
ty_parts (of_pair_first h) = inl (inl h)
ty_parts (of_pair_second h) = inl (inr h)
ty_parts (of_sum_left h) = inl (inl h)
ty_parts (of_sum_right h) = inl (inr h)
ty_parts (of_payload h) = inl h

from_ty_parts : {v : Ty} (w : Ty) → OfParts (TyPartOf v) (λ es. ⊥) w → TyPartOf v w
from_ty_parts (pair_ty t u) h = ⊎_elim (λ a. of_pair_first a) (λ b. of_pair_second b) h
from_ty_parts (sum_ty t u) h = ⊎_elim (λ a. of_sum_left a) (λ b. of_sum_right b) h
from_ty_parts (key t) h = of_payload h
from_ty_parts _ h = absurd h

-- a type is put over its parts
adds_ty : {s q r : Store} (w : Ty) → AddsMessages s.messages q.messages (λ x. OfParts (InTy x) (InEffect x) w) → AddsTypes s q (λ v. OfParts (TyPartOf v) (λ es. ⊥) w) → Keeps q r → Adds q r (over_types w) → Adds s r (a_type w)
adds_ty w f g l o = record {
  messages = adds_as (λ x h. ⊎_elim (from_parts w) (λ z. absurd z) h) (λ x h. inl (in_parts h)) (adds_more f l.messages o.messages);
  types = types_as (λ v h. ⊎_elim (from_ty_parts w) (λ e. subst (λ z. TyPartOf z w) (sym e) whole_ty) h) (λ v h. ty_parts h) (types_more g l o.types);
}

-- a type without parts, which stays
type_stays : {s : Store} {vs : List MsgId} {depth : ℕ} {t : TyId} (n : Ty) → ((u : Ty) → Means s t.place u → u ≡ n) → ((f : ℕ → Message → Message) (d : ℕ) → ty_map f d n ≡ n) → ((x : Message) → OfParts (InTy x) (InEffect x) n → ⊥) → ((v : Ty) → OfParts (TyPartOf v) (λ es. ⊥) n → ⊥) → TypeIsAdded s s vs depth t
type_stays {s} {vs} {t = t} n f g a b = record {
  at = λ d u e m h.
      let q : n ≡ ty_map (fill (values_of s.messages vs)) d u = sym (g (fill (values_of s.messages vs)) d) ∙ ap (ty_map (fill (values_of s.messages vs)) d) (sym (f u m)) in
      let there : Means s t.place n = subst (Means s t.place) (f u m) m in
      subst (λ v. Adds s s (a_type v)) q record {
        messages = adds_as (λ x p. absurd p) (λ x p. a x (in_parts p)) (adds_none refl);
        types = record { all = λ v p. record { place = t.place; means = subst (Means s t.place) (sym (⊎_elim (λ z. absurd (b v z)) (λ w. w) (ty_parts p))) there }; only = λ i l. inl l };
      };
}

pub added_un : {s : Store} {vs : List MsgId} {depth : ℕ} {t : TyId} → ((u : Ty) → Means s t.place u → u ≡ un) → TypeIsAdded s s vs depth t
added_un f = type_stays un f (λ g d. refl) (λ x p. p) (λ v p. p)

pub added_unit_ty : {s : Store} {vs : List MsgId} {depth : ℕ} {t : TyId} → ((u : Ty) → Means s t.place u → u ≡ unit_ty) → TypeIsAdded s s vs depth t
added_unit_ty f = type_stays unit_ty f (λ g d. refl) (λ x p. p) (λ v p. p)

adds_pair : {s p q r : Store} {t u : Ty} → Adds s p (a_type t) → Keeps p q → Adds p q (a_type u) → Keeps q r → Adds q r (over_types (pair_ty t u)) → Adds s r (a_type (pair_ty t u))
adds_pair {t = t} {u = u} f k g l o = adds_ty (pair_ty t u) (adds_more f.messages k.messages g.messages) (types_more f.types k g.types) l o

adds_sum : {s p q r : Store} {t u : Ty} → Adds s p (a_type t) → Keeps p q → Adds p q (a_type u) → Keeps q r → Adds q r (over_types (sum_ty t u)) → Adds s r (a_type (sum_ty t u))
adds_sum {t = t} {u = u} f k g l o = adds_ty (sum_ty t u) (adds_more f.messages k.messages g.messages) (types_more f.types k g.types) l o

adds_key : {s q r : Store} {t : Ty} → Adds s q (a_type t) → Keeps q r → Adds q r (over_types (key t)) → Adds s r (a_type (key t))
adds_key {t = t} f l o = adds_ty (key t) f.messages f.types l o

-- effects with equal counts are over the same messages
effect_has : (x : Message) (es : Effect) → InEffect x es → (a : Atom) × In a es × PartOf x (message_of a)
effect_has x [] h = elim h [ ]
effect_has x (a ∷ es) (in_first p) = (a, first_of, p)
effect_has x (a ∷ es) (in_later h) = let w = effect_has x es h in (w.0, later_of w.1, w.2)

effect_from : {x : Message} {a : Atom} {es : Effect} → In a es → PartOf x (message_of a) → InEffect x es
effect_from first_of p = in_first p
effect_from (later_of h) p = in_later (effect_from h p)

pub atom_same_in : {es fs : Effect} (a : Atom) → SameEffect es fs → In a es → In a fs
atom_same_in {es} {fs} a h i = tally_in a fs ((count_tally a _).0 (subst (λ n. 1 ≤ n) (h.at a) ((count_tally a _).1 (in_tally i))))

effect_same_in : {es fs : Effect} (x : Message) → SameEffect es fs → InEffect x es → InEffect x fs
effect_same_in {es} x h i = let w = effect_has x es i in effect_from (atom_same_in w.0 h w.1) w.2

adds_nonce_ty : {s q r : Store} {es fs : Effect} → SameEffect es fs → AddsMessages s.messages q.messages (λ x. InEffect x es) → AddsTypes s q (λ u. ⊥) → Keeps q r → Adds q r (over_types (nonce es)) → Adds s r (a_type (nonce fs))
adds_nonce_ty {s} {q} {r} {es} {fs} h f g l o = record {
  messages = adds_as to from (adds_more f l.messages o.messages);
  types = record { all = all; only = only };
}
  where
    to : (x : Message) → InEffect x es ⊎ ⊥ → InTy x (nonce fs)
    to x (inl a) = in_nonce (effect_same_in x h a)
    to x (inr c) = absurd c

    from : (x : Message) → InTy x (nonce fs) → InEffect x es ⊎ ⊥
    from x (in_nonce a) = inl (effect_same_in x (same_sym h) a)

    types : AddsTypes s r (λ u. ⊥ ⊎ (u ≡ nonce es))
    types = types_more g l o.types

    all : (v : Ty) → TyPartOf v (nonce fs) → HasTy r v
    all v whole_ty = let w = types.all (nonce es) (inr refl) in record { place = w.place; means = means_as (same_nonce h) w.means }

    only : (i : ℕ) → i < length r.types → (i < length s.types) ⊎ ((v : Ty) × TyPartOf v (nonce fs) × Means r i v)
    only i k = ⊎_elim inl (λ w. inr (nonce fs, whole_ty, ⊎_elim (λ c. absurd c) (λ e. means_as (same_nonce h) (subst (Means r i) e w.2)) w.1)) (types.only i k)

later_type : {s p q : Store} {vs : List MsgId} {depth : ℕ} {b : TyId} {w : Ty} → Keeps s p → AreIdsBelow vs (length s.messages) → TypeIsAdded p q vs depth b → (d : ℕ) → IsDepth d depth → Means s b.place w → AllHaveParts s.messages (values_of s.messages vs) → Adds p q (a_type (ty_map (fill (values_of s.messages vs)) d w))
later_type {s} {p} {q} {vs} {w = w} k v g d e m h =
    subst (λ us. Adds p q (a_type (ty_map (fill us) d w))) (values_keep vs k.messages v) (g.at d w e (means_keeps k m) (all_parts_keep k.messages v h))

pub added_pair_ty : {E : Type 0} {s p q : Store} (r : Store) {vs : List MsgId} {depth deep : ℕ} {t a b x y : TyId} → TwoTys s t a b pair_ty → Keeps s p → AreIdsBelow vs (length s.messages) → FillsTy s p vs depth a x → TypeIsAdded s p vs depth a → ((d : ℕ) → IsDepth d depth → IsDepth (suc d) deep) → Keeps p q → FillsTy p q vs deep b y → TypeIsAdded p q vs deep b → Keeps q r → (o : Result TyId E) → OnOk o ((v w : Ty) → Means q x.place v → Means q y.place w → Adds q r (over_types (pair_ty v w))) → OnOk o (TypeIsAdded s r vs depth t)
added_pair_ty {s = s} r {vs = vs} t k v f fa n l g ga j (Ok id) h = record {
  at = λ d u e m c.
      let z = t.at u m in
      subst (λ w. Adds s r (a_type (ty_map (fill (values_of s.messages vs)) d w))) (sym z.2) (adds_pair (fa.at d z.0 e z.3 c) l (later_type k v ga (suc d) (n d e) z.4 c) j (h _ _ (means_keeps l (f.at d z.0 e z.3)) (later_fill k v g (suc d) (n d e) z.4)));
}
added_pair_ty r t k v f fa n l g ga j (Err e) h = tt

pub added_sum_ty : {E : Type 0} {s p q : Store} (r : Store) {vs : List MsgId} {depth : ℕ} {t a b x y : TyId} → TwoTys s t a b sum_ty → Keeps s p → AreIdsBelow vs (length s.messages) → FillsTy s p vs depth a x → TypeIsAdded s p vs depth a → Keeps p q → FillsTy p q vs depth b y → TypeIsAdded p q vs depth b → Keeps q r → (o : Result TyId E) → OnOk o ((v w : Ty) → Means q x.place v → Means q y.place w → Adds q r (over_types (sum_ty v w))) → OnOk o (TypeIsAdded s r vs depth t)
added_sum_ty {s = s} r {vs = vs} t k v f fa l g ga j (Ok id) h = record {
  at = λ d u e m c.
      let z = t.at u m in
      subst (λ w. Adds s r (a_type (ty_map (fill (values_of s.messages vs)) d w))) (sym z.2) (adds_sum (fa.at d z.0 e z.3 c) l (later_type k v ga d e z.4 c) j (h _ _ (means_keeps l (f.at d z.0 e z.3)) (later_fill k v g d e z.4)));
}
added_sum_ty r t k v f fa l g ga j (Err e) h = tt

pub added_key_ty : {E : Type 0} {s p : Store} (r : Store) {vs : List MsgId} {depth : ℕ} {t a x : TyId} → OneTy s t a key → FillsTy s p vs depth a x → TypeIsAdded s p vs depth a → Keeps p r → (o : Result TyId E) → OnOk o ((v : Ty) → Means p x.place v → Adds p r (over_types (key v))) → OnOk o (TypeIsAdded s r vs depth t)
added_key_ty {s = s} r {vs = vs} t f fa j (Ok id) h = record {
  at = λ d u e m c.
      let z = t.at u m in
      subst (λ w. Adds s r (a_type (ty_map (fill (values_of s.messages vs)) d w))) (sym z.1) (adds_key (fa.at d z.0 e z.2 c) j (h _ (f.at d z.0 e z.2)));
}
added_key_ty r t f fa j (Err e) h = tt

pub added_nonce_ty : {E : Type 0} {s : Store} (p r : Store) {vs : List MsgId} {depth : ℕ} {t : TyId} {ids js rs : List AtomId} → NonceTy s t ids → js ≡ ids → FillsAtoms s.messages p.messages vs depth js rs → AtomsAreAdded s p vs depth js → Keeps p r → (o : Result TyId E) → OnOk o ((es : Effect) → TellsAll (SaysAtom p.messages) rs es → Adds p r (over_types (nonce es))) → OnOk o (TypeIsAdded s r vs depth t)
added_nonce_ty {s = s} p r {vs = vs} {ids = ids} {js = js} t e f fa j (Ok id) h = record {
  at = λ d u i m c.
      let z = t.at u m in
      let g = fill (values_of s.messages vs) in
      let same : SameEffect (effect_map (g d) (map (atom_at s.messages) js)) (effect_map (g d) z.0) = same_map (g d) (map (atom_at s.messages) js) z.0 (subst (λ us. SameEffect (map (atom_at s.messages) us) z.0) (sym e) z.2) in
      subst (λ w. Adds s r (a_type (ty_map g d w))) (sym z.1) (adds_nonce_ty same (fa.messages d i c) (fa.types d i c) j (h _ (f.at d i)));
}
added_nonce_ty p r t e f fa j (Err x) h = tt
