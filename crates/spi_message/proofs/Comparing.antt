-- What typing messages gives numbers to, form by form.
use Rattle.std.proofs.Common.{◌≡◌, ℕ, zero, suc, ◌<◌, Bool, true, List, [], ◌∷◌, ◌++◌, Some, slice_get, length, refl, sym, ap, subst, ◌∙◌, ⊎_elim, arith}
use Rattle.spi_term.specs.Term.{Message, name, pair, enc, Ty, un, pair_ty, sum_ty, key}
use Rattle.spi_term.specs.Lists.{In, in_first, in_later}
use Rattle.spi_term.specs.Substitution.{ty_map, ty_put}
use Rattle.spi_rules.specs.Environment.{Env}
use Rattle.spi_intern.specs.Messages.{message_at}
use Rattle.spi_intern.specs.Parts.{PartOf, whole, of_first, of_second, of_body, of_key}
use Rattle.spi_intern.specs.Meaning.{Means, Keeps}
use Rattle.spi_intern.specs.Growing.{Given, Adds, a_type}
use Rattle.spi_intern.specs.declared.messages.MsgId.{MsgId}
use Rattle.spi_intern.specs.declared.types.TyId.{TyId}
use Rattle.spi_intern.specs.declared.store.Store.{Store}
use Rattle.spi_intern.proofs.Lists.{get_push}
use Rattle.spi_intern.proofs.Meanings.{means_keeps}
use Rattle.spi_message.specs.Judging.{StandFor}
use Rattle.spi_message.specs.Filling.{fill, filled, AllStay, values_of, AreIdsBelow}
use Rattle.spi_message.specs.Asking.{IsTyped, IsPayload, AreSides, sides_of_un, sides_of_sum, AreSidesOf}
use Rattle.spi_message.specs.Tests.{type_of_key}
use Rattle.spi_message.specs.Giving.{HasParts, GivesOnly, Opening, itself, of_first as opens_first, of_second as opens_second, of_left as opens_left, of_right as opens_right, Compared, with_un, with_type, with_payload}
use Rattle.spi_message.specs.Added.{AllHaveParts, TypeIsAdded, TypingGives, LabelGives}
use Rattle.spi_message.proofs.Deciding.{key_in_some}
use Rattle.spi_message.proofs.Fills.{message_keeps, values_keep}
use Rattle.spi_message.proofs.FillsTypes.{TwoTys}
use Rattle.spi_message.proofs.Added.{parts_keep, all_parts_keep}
use Rattle.spi_message.proofs.Standing.{stand_keeps}
use Rattle.spi_message.proofs.Typings.{put_filled, filled_none, none_stay}
use Rattle.spi_message.proofs.Questions.{values_push, below_more, stay_typed}
use Rattle.spi_message.proofs.Giving.{gives_none, gives_one, gives_more, gives_as, part_trans, parts_of_part}

-- ---- what is compared for a part

opening_part : {a n : Message} {v u : Ty} → PartOf a n → Opening a v u → Opening n v u
opening_part p itself = itself
opening_part p (opens_first o) = opens_first (opening_part p o)
opening_part p (opens_second q o) = opens_second (part_trans q p) (opening_part p o)
opening_part p (opens_left o) = opens_left (opening_part p o)
opening_part p (opens_right o) = opens_right (opening_part p o)

pub compared_part : {e : Env} {a n : Message} {u : Ty} {g : Given} → PartOf a n → Compared e a u g → Compared e n u g
compared_part p with_un = with_un
compared_part p (with_type o) = with_type (opening_part p o)
compared_part p (with_payload i o) = with_payload i (opening_part p o)

compared_first : {e : Env} {n : Message} {t u : Ty} {g : Given} → Compared e n t g → Compared e n (pair_ty t u) g
compared_first with_un = with_un
compared_first (with_type o) = with_type (opens_first o)
compared_first (with_payload i o) = with_payload i o

compared_second : {e : Env} {m n : Message} {t u : Ty} {g : Given} → PartOf m n → Compared e n (ty_put m u) g → Compared e n (pair_ty t u) g
compared_second p with_un = with_un
compared_second p (with_type o) = with_type (opens_second p o)
compared_second p (with_payload i o) = with_payload i o

compared_left : {e : Env} {n : Message} {t u : Ty} {g : Given} → Compared e n t g → Compared e n (sum_ty t u) g
compared_left with_un = with_un
compared_left (with_type o) = with_type (opens_left o)
compared_left (with_payload i o) = with_payload i o

compared_right : {e : Env} {n : Message} {t u : Ty} {g : Given} → Compared e n u g → Compared e n (sum_ty t u) g
compared_right with_un = with_un
compared_right (with_type o) = with_type (opens_right o)
compared_right (with_payload i o) = with_payload i o

-- what a label is compared with, every typing may be
compared_label : {e : Env} {n : Message} {u : Ty} {g : Given} → Compared e n un g → Compared e n u g
compared_label with_un = with_un
compared_label (with_type itself) = with_un
compared_label (with_payload i o) = with_payload i o

-- what a body is compared with under a key
compared_payload : {e : Env} {a n : Message} {t : Ty} {g : Given} → In (key t) e → PartOf a n → Compared e a t g → Compared e n un g
compared_payload i p with_un = with_un
compared_payload i p (with_type o) = with_payload i (opening_part p o)
compared_payload i p (with_payload j o) = with_payload j (opening_part p o)

get_in : (e : Env) (x : ℕ) (t : Ty) → slice_get e x ≡ Some t → In t e
get_in [] x t h = absurd cc
get_in (u ∷ e) zero t h = let q : u ≡ t = cc in subst (λ v. In v (u ∷ e)) q in_first
get_in (u ∷ e) (suc x) t h = in_later (get_in e x t h)

key_in_env : (e : Env) (m : Message) (t : Ty) → type_of_key e m ≡ Some t → In (key t) e
key_in_env e (name x) t h = get_in e x (key t) (key_in_some (slice_get e x) t h)
key_in_env e _ t h = absurd cc

-- ---- over a store that has grown

pub later_typing : {s p r : Store} {env : List TyId} {d : MsgId} {y : TyId} {vs ws : List MsgId} → Keeps s p → d.place < length s.messages → AreIdsBelow vs (length s.messages) → ws ≡ vs → TypingGives p r env (message_at p.messages d) y ws → (e : Env) (u : Ty) → StandFor s env e → Means s y.place u → AllStay (values_of s.messages vs) → AllHaveParts s.messages (values_of s.messages vs) → HasParts s.messages (message_at s.messages d) → GivesOnly (Compared e (message_at s.messages d) (filled (values_of s.messages vs) u)) p r
later_typing {s} {p} {r} {env} {d} {y} {vs} {ws} k w b q g e u st m stay hp hn =
    let f : TypingGives p r env (message_at p.messages d) y vs = subst (TypingGives p r env (message_at p.messages d) y) q g in
    let em : message_at p.messages d ≡ message_at s.messages d = message_keeps d k.messages w in
    let ev : values_of p.messages vs ≡ values_of s.messages vs = values_keep vs k.messages b in
    subst (λ us. GivesOnly (Compared e (message_at s.messages d) (filled us u)) p r) ev (subst (λ n. GivesOnly (Compared e n (filled (values_of p.messages vs) u)) p r) em (f.at e u (stand_keeps k st) (means_keeps k m) (subst AllStay (sym ev) stay) (all_parts_keep k.messages b hp) (subst (HasParts p.messages) (sym em) (parts_keep k.messages hn))))

pub later_label : {s p r : Store} {env : List TyId} {d : MsgId} → Keeps s p → d.place < length s.messages → LabelGives p r env (message_at p.messages d) → (e : Env) → StandFor s env e → HasParts s.messages (message_at s.messages d) → GivesOnly (Compared e (message_at s.messages d) un) p r
later_label {s} {p} {r} {d = d} k w g e st hn =
    let em : message_at p.messages d ≡ message_at s.messages d = message_keeps d k.messages w in
    subst (λ n. GivesOnly (Compared e n un) p r) em (g.at e (stand_keeps k st) (subst (HasParts p.messages) (sym em) (parts_keep k.messages hn)))

pub none_have_parts : {ms : List Message} → AllHaveParts ms []
none_have_parts = record { at = λ i v e. absurd cc }

-- a message that is typed with no values
pub alone_typing : {s r : Store} {env : List TyId} {n : Message} {t : TyId} {vs : List MsgId} → vs ≡ [] → TypingGives s r env n t vs → (e : Env) (u : Ty) → StandFor s env e → Means s t.place u → HasParts s.messages n → GivesOnly (Compared e n u) s r
alone_typing {s} {r} {env} {n} {t} q g e u st m hn =
    let f : TypingGives s r env n t [] = subst (TypingGives s r env n t) q g in
    subst (λ v. GivesOnly (Compared e n v) s r) (filled_none u) (f.at e u st m none_stay none_have_parts hn)

-- ---- typing

pub no_typing : {s : Store} {env : List TyId} {n : Message} {t : TyId} {vs : List MsgId} → TypingGives s s env n t vs
no_typing = record { at = λ e u st m stay hp hn. gives_none }

pub no_label : {s : Store} {env : List TyId} {n : Message} → LabelGives s s env n
no_label = record { at = λ e st hn. gives_none }

pub name_compared : {s r : Store} {env : List TyId} {n : Message} {t : TyId} {vs : List MsgId} → Keeps s r → TypeIsAdded s r vs 0 t → TypingGives s r env n t vs
name_compared k h = record { at = λ e u st m stay hp hn. gives_one (with_type itself) k (h.at 0 u (omega arith) m hp) }

pub part_typing : {s r : Store} {env : List TyId} {a n : Message} {t : TyId} {vs : List MsgId} → PartOf a n → TypingGives s r env a t vs → TypingGives s r env n t vs
part_typing p h = record { at = λ e u st m stay hp hn. gives_as (λ g. compared_part p) (h.at e u st m stay hp (parts_of_part p hn)) }

pub part_label : {s r : Store} {env : List TyId} {a n : Message} → PartOf a n → LabelGives s r env a → LabelGives s r env n
part_label p h = record { at = λ e st hn. gives_as (λ g. compared_part p) (h.at e st (parts_of_part p hn)) }

pub label_typing : {s r : Store} {env : List TyId} {n : Message} {t : TyId} {vs : List MsgId} → LabelGives s r env n → TypingGives s r env n t vs
label_typing h = record { at = λ e u st m stay hp hn. gives_as (λ g. compared_label) (h.at e st hn) }

-- a side of a sum
compared_sides : {e : Env} {n : Message} {u v w : Ty} {g : Given} (us : List Message) → AreSides u v w → (Compared e n (filled us v) g → Compared e n (filled us u) g) × (Compared e n (filled us w) g → Compared e n (filled us u) g)
compared_sides us sides_of_un = ((λ h. h), (λ h. h))
compared_sides us sides_of_sum = (compared_left, compared_right)

pub left_side_typing : {s r : Store} {env : List TyId} {a n : Message} {t x y : TyId} {vs : List MsgId} → AreSidesOf s t x y → PartOf a n → TypingGives s r env a x vs → TypingGives s r env n t vs
left_side_typing {s} {vs = vs} w p h = record {
  at = λ e u st m stay hp hn. let z = w.at u m in gives_as (λ g q. (compared_sides (values_of s.messages vs) z.2).0 (compared_part p q)) (h.at e z.0 st z.3 stay hp (parts_of_part p hn));
}

pub right_side_typing : {s r : Store} {env : List TyId} {a n : Message} {t x y : TyId} {vs : List MsgId} → AreSidesOf s t x y → PartOf a n → TypingGives s r env a y vs → TypingGives s r env n t vs
right_side_typing {s} {vs = vs} w p h = record {
  at = λ e u st m stay hp hn. let z = w.at u m in gives_as (λ g q. (compared_sides (values_of s.messages vs) z.2).1 (compared_part p q)) (h.at e z.1 st z.4 stay hp (parts_of_part p hn));
}

pub first_typing : {s r : Store} {env : List TyId} {a n : Message} {t x y : TyId} {vs : List MsgId} → TwoTys s t x y pair_ty → PartOf a n → TypingGives s r env a x vs → TypingGives s r env n t vs
first_typing {s} {r} {n = n} {vs = vs} w p h = record {
  at = λ e u st m stay hp hn.
      let z = w.at u m in
      subst (λ v. GivesOnly (Compared e n (filled (values_of s.messages vs) v)) s r) (sym z.2) (gives_as (λ g q. compared_first (compared_part p q)) (h.at e z.0 st z.3 stay hp (parts_of_part p hn)));
}

-- both parts of a pair at Un
pub both_typing : {s p r : Store} {env : List TyId} (a d : MsgId) {t : TyId} {vs ws : List MsgId} → TypingGives s p env (message_at s.messages a) t vs → Keeps s p → d.place < length s.messages → AreIdsBelow vs (length s.messages) → ws ≡ vs → TypingGives p r env (message_at p.messages d) t ws → TypingGives s r env (pair (message_at s.messages a) (message_at s.messages d)) t vs
both_typing a d f k w b q g = record {
  at = λ e u st m stay hp hn.
      gives_more (gives_as (λ g. compared_part (of_first whole)) (f.at e u st m stay hp (parts_of_part (of_first whole) hn))) (gives_as (λ g. compared_part (of_second whole)) (later_typing k w b q g e u st m stay hp (parts_of_part (of_second whole) hn)));
}

pub parts_push : {ms us : List Message} {n : Message} → AllHaveParts ms us → HasParts ms n → AllHaveParts ms (us ++ n ∷ [])
parts_push {ms} {us} {n} h p = record {
  at = λ i v e. ⊎_elim (λ f. h.at i v f) (λ f. subst (HasParts ms) (sym f.1) p) (get_push us n i v e);
}

-- both parts of a pair at a pair type
pub pair_typing : {s p r : Store} {env : List TyId} {a d : MsgId} {t x y : TyId} {vs ws : List MsgId} {c : Bool} → TwoTys s t x y pair_ty → IsTyped s env (message_at s.messages a) x vs c → c ≡ true → TypingGives s p env (message_at s.messages a) x vs → Keeps s p → a.place < length s.messages → d.place < length s.messages → AreIdsBelow vs (length s.messages) → ws ≡ vs ++ a ∷ [] → TypingGives p r env (message_at p.messages d) y ws → TypingGives s r env (pair (message_at s.messages a) (message_at s.messages d)) t vs
pair_typing {s} {p} {r} {a = a} {d = d} {vs = vs} t h q fa k l j v w g = record {
  at = λ e u st m stay hp hn.
      let us = values_of s.messages vs in
      let na = message_at s.messages a in
      let nd = message_at s.messages d in
      let z = t.at u m in
      let s1 : values_of s.messages (vs ++ a ∷ []) ≡ us ++ na ∷ [] = values_push s.messages vs a in
      let ha = parts_of_part (of_first whole) hn in
      let one = gives_as (λ g c. compared_first (compared_part (of_first whole) c)) (fa.at e z.0 st z.3 stay hp ha) in
      let two : GivesOnly (Compared e nd (filled (values_of s.messages (vs ++ a ∷ [])) z.1)) p r = later_typing k j (below_more {vs = vs} {ws = vs ++ a ∷ []} v l refl) w g e z.1 st z.4 (stay_typed a h q e z.0 st z.3 stay) (subst (AllHaveParts s.messages) (sym s1) (parts_push hp ha)) (parts_of_part (of_second whole) hn) in
      let put : GivesOnly (Compared e nd (ty_put na (ty_map (fill us) 1 z.1))) p r = subst (λ v. GivesOnly (Compared e nd v) p r) (ap (λ ns. filled ns z.1) s1 ∙ sym (put_filled us stay na z.1)) two in
      subst (λ v. GivesOnly (Compared e (pair na nd) (filled us v)) s r) (sym z.2) (gives_more one (gives_as (λ g c. compared_second (of_first whole) (compared_part (of_second whole) c)) put));
}

-- ---- labels

pub both_labels : {s p r : Store} {env : List TyId} (a d : MsgId) → LabelGives s p env (message_at s.messages a) → Keeps s p → d.place < length s.messages → LabelGives p r env (message_at p.messages d) → LabelGives s r env (pair (message_at s.messages a) (message_at s.messages d))
both_labels a d f k w g = record {
  at = λ e st hn.
      gives_more (gives_as (λ g. compared_part (of_first whole)) (f.at e st (parts_of_part (of_first whole) hn))) (gives_as (λ g. compared_part (of_second whole)) (later_label k w g e st (parts_of_part (of_second whole) hn)));
}

pub payload_label : {s r : Store} {env : List TyId} {b k : Message} {p : TyId} {vs : List MsgId} → IsPayload s env k p → vs ≡ [] → TypingGives s r env b p vs → LabelGives s r env (enc b k)
payload_label {k = k} h q g = record {
  at = λ e st hn.
      let w = h.at e st in
      gives_as (λ g. compared_payload (key_in_env e k w.0 w.1) (of_body whole)) (alone_typing q g e w.0 st w.2 (parts_of_part (of_body whole) hn));
}

-- a key and a body at Un
pub un_part : {s p q : Store} {env : List TyId} {n : Message} {d : MsgId} {i : TyId} {vs : List MsgId} → Keeps s p → Means p i.place un → d.place < length s.messages → vs ≡ [] → PartOf (message_at s.messages d) n → TypingGives p q env (message_at p.messages d) i vs → (e : Env) → StandFor s env e → HasParts s.messages n → GivesOnly (Compared e n un) p q
un_part {s} {p} {q} {d = d} k m w b o g e st hn =
    let em : message_at p.messages d ≡ message_at s.messages d = message_keeps d k.messages w in
    let f = alone_typing b g e un (stand_keeps k st) m (subst (HasParts p.messages) (sym em) (parts_keep k.messages (parts_of_part o hn))) in
    gives_as (λ g. compared_part o) (subst (λ n. GivesOnly (Compared e n un) p q) em f)

pub key_label : {s p q : Store} {env : List TyId} (b k : MsgId) {i : TyId} {vs : List MsgId} → Keeps s p → Adds s p (a_type un) → Means p i.place un → k.place < length s.messages → vs ≡ [] → TypingGives p q env (message_at p.messages k) i vs → LabelGives s q env (enc (message_at s.messages b) (message_at s.messages k))
key_label b k l a m w v g = record { at = λ e st hn. gives_more (gives_one with_un l a) (un_part l m w v (of_key whole) g e st hn) }

pub body_label : {s q r : Store} {env : List TyId} {n : Message} (b : MsgId) {i : TyId} {vs : List MsgId} → LabelGives s q env (enc (message_at s.messages b) n) → Keeps s q → Means q i.place un → b.place < length s.messages → vs ≡ [] → TypingGives q r env (message_at q.messages b) i vs → LabelGives s r env (enc (message_at s.messages b) n)
body_label b h l m w v g = record { at = λ e st hn. gives_more (h.at e st hn) (un_part l m w v (of_body whole) g e st hn) }
