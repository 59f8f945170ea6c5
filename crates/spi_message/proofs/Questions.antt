-- Answers to questions over shared terms, form by form.
use Rattle.std.proofs.Common.{◌≡◌, ℕ, zero, suc, ◌<◌, Bool, true, false, ◌&&◌, ◌||◌, List, [], ◌∷◌, ◌++◌, Option, Some, None, length, refl, sym, ap, subst, ◌∙◌, arith, Result, Ok, Err, IfOk}
use Rattle.std.specs.Prelude.{slice_get, nat_lt, IfSome, IfNone, nat_eq}
use Rattle.std.proofs.Math.Bool.{and-false}
use Rattle.std.proofs.lemmas.Bool.{eqb-true, eq-eqb}
use Rattle.spi_term.specs.Term.{Message, bound, name, unit, pair, in_left, in_right, enc, hash, Ty, un, pair_ty, sum_ty, key}
use Rattle.spi_term.specs.SameTy.{SameTy}
use Rattle.spi_term.specs.Substitution.{ty_map, ty_put}
use Rattle.spi_term.proofs.Choices.{truths}
use Rattle.spi_effect.specs.Made.{same_ty}
use Rattle.spi_effect.proofs.Made.{same_sound, same_complete}
use Rattle.spi_rules.specs.Environment.{Env}
use Rattle.spi_intern.specs.Messages.{Says, says_name, message_at}
use Rattle.spi_intern.specs.Meaning.{Means, Keeps, NoneTwice}
use Rattle.spi_intern.specs.Given.{IsGiven}
use Rattle.spi_intern.specs.Lent.{SaysTy, says_un, says_unit as says_unit_ty, says_pair as says_pair_ty, says_sum, says_key}
use Rattle.spi_intern.specs.declared.messages.MsgId.{MsgId}
use Rattle.spi_intern.specs.declared.messages.MsgPart.{MsgPart}
use Rattle.spi_intern.specs.declared.messages.MsgPart.TheVariants.{Name}
use Rattle.spi_intern.specs.declared.types.TyId.{TyId}
use Rattle.spi_intern.specs.declared.store.Store.{Store}
use Rattle.spi_intern.specs.declared.store.TyPart.{TyPart}
use Rattle.spi_intern.specs.declared.store.TyPart.TheVariants.{Un, Unit as NoParts, Pair, Sum, Key}
use Rattle.spi_intern.proofs.Meanings.{means_keeps}
use Rattle.spi_intern.proofs.Sized.{Tells, message_there}
use Rattle.spi_intern.proofs.Telling.{types_tell}
use Rattle.spi_message.specs.Judging.{StandFor}
use Rattle.spi_message.specs.Filling.{fill, filled, AllStay, values_of, AreIdsBelow, FillsTy}
use Rattle.spi_message.specs.Asking.{IsEnvironment, IsAsked, IsTyped, IsLabelled, AreSides, sides_of_un, sides_of_sum, AreSidesOf, HasNoSides, IsKeyFor, IsNoKey, IsPayload, IsNoPayload}
use Rattle.spi_message.specs.Tests.{is_un, is_unit, as_name, as_pair, as_left, as_right, key_in, type_of_key, by_key, typed, labelled}
use Rattle.spi_message.proofs.Deciding.{key_alone}
use Rattle.spi_message.proofs.Fills.{message_keeps, below_keeps, values_keep, all_below_keeps, none_below}
use Rattle.spi_message.proofs.FillsTypes.{TwoTys, OneTy, given_keeps}
use Rattle.spi_message.proofs.Standing.{stand_keeps, stand_at, stand_none_at, environment_keeps, stand_length}
use Rattle.spi_message.proofs.Typings.{typed_stays, put_filled, filled_none, none_stay, stay_push}

-- what the outermost constructor of a type says of it
pub not_un_says : {s : Store} {p : TyPart} {u : Ty} → SaysTy s p u → (p ≡ Un → ⊥) → false ≡ is_un u
not_un_says says_un h = absurd (h refl)
not_un_says _ h = refl

pub not_unit_says : {s : Store} {p : TyPart} {u : Ty} → SaysTy s p u → (p ≡ Un → ⊥) → (p ≡ NoParts → ⊥) → false ≡ is_unit u
not_unit_says says_un h k = absurd (h refl)
not_unit_says says_unit_ty h k = absurd (k refl)
not_unit_says _ h k = refl

no_key_says : {s : Store} {p : TyPart} {u : Ty} → SaysTy s p u → ((a : TyId) → p ≡ Key a → ⊥) → key_in (Some u) ≡ None
no_key_says (says_key {a = a} m) h = absurd (h a refl)
no_key_says _ h = refl

pub no_key : {s : Store} {t : TyId} {p : TyPart} → ((u : Ty) → Means s t.place u → SaysTy s p u) → ((a : TyId) → p ≡ Key a → ⊥) → IsNoKey s t
no_key f h = record { at = λ u m. no_key_says (f u m) h }

pub key_for : {s : Store} {t p : TyId} → OneTy s t p key → IsKeyFor s t p
key_for w = record { at = w.at }

-- a name of a type
pub no_name : {ms : List Message} {p : MsgPart} {n : Message} (e : Env) → Says ms p n → ((x : ℕ) → p ≡ Name x → ⊥) → type_of_key e n ≡ None
no_name e (says_name {x = x}) h = absurd (h x refl)
no_name e _ h = refl

pub no_payload_name : {s : Store} {env : List TyId} {n : Message} {x : ℕ} → n ≡ name x → slice_get env x ≡ None → IsNoPayload s env n
no_payload_name {n = n} {x = x} q h = record { at = λ e st. ap (type_of_key e) q ∙ ap key_in (stand_none_at st x h) }

pub no_payload_part : {s : Store} {env : List TyId} {m : MsgId} {p : MsgPart} → Tells s.messages m p → m.place < length s.messages → ((x : ℕ) → p ≡ Name x → ⊥) → IsNoPayload s env (message_at s.messages m)
no_payload_part {s} {m = m} f h g = record { at = λ e st. no_name e (f (message_at s.messages m) (message_there s.messages m h)) g }

pub payload_given : {s : Store} {env : List TyId} (x : ℕ) {i : TyId} → IsEnvironment s env → slice_get env x ≡ Some i → IsGiven s i.place
payload_given x {i = i} h g = let w = stand_at h.stands x i g in record { type = w.0; means = w.2 }

pub payload_some : (s : Store) (env : List TyId) {n : Message} {x : ℕ} {i : TyId} → n ≡ name x → slice_get env x ≡ Some i → (o : Option TyId) → IfSome o (IsKeyFor s i) → IfSome o (IsPayload s env n)
payload_some s env {n = n} {x = x} {i = i} q g (Some p) h = record {
  at = λ e st.
      let w = stand_at st x i g in
      let z = h.at w.0 w.2 in
      (z.0, ap (type_of_key e) q ∙ ap key_in (w.1 ∙ ap Some z.1), z.2);
}
payload_some s env q g None h = tt

pub payload_none : (s : Store) (env : List TyId) {n : Message} {x : ℕ} {i : TyId} → n ≡ name x → slice_get env x ≡ Some i → (o : Option TyId) → IfNone o (IsNoKey s i) → IfNone o (IsNoPayload s env n)
payload_none s env q g (Some p) h = tt
payload_none s env {n = n} {x = x} {i = i} q g None h = record {
  at = λ e st.
      let w = stand_at st x i g in
      ap (type_of_key e) q ∙ ap key_in w.1 ∙ h.at w.0 w.2;
}

-- a name has the type with its number, and no other
same_of : (t u : Ty) (b : Bool) → (b ≡ true → SameTy t u) → (SameTy t u → b ≡ true) → b ≡ same_ty t u
same_of t u b f g = truths b (same_ty t u) (λ h. same_complete (f h)) (λ h. g (same_sound t u h))

pub name_typed : {s r : Store} {env : List TyId} {t i w : TyId} {vs : List MsgId} {x : ℕ} → Keeps s r → NoneTwice r → slice_get env x ≡ Some i → FillsTy s r vs 0 t w → (b : Bool) → b ≡ nat_eq i.place w.place → IsTyped s env (name x) t vs b
name_typed {s} {r} {env} {t} {i} {w} {vs} {x} k d g f b h = record {
  at = λ e u st m a.
      let z = stand_at st x i g in
      let v = filled (values_of s.messages vs) u in
      let q = types_tell r d i.place w.place z.0 v (means_keeps k z.2) (f.at 0 u (omega arith) m) in
      same_of z.0 v b (λ y. q.0 (eqb-true i.place w.place (sym h ∙ y))) (λ y. h ∙ eq-eqb i.place w.place (q.1 y)) ∙ ap (λ o. as_name o v) (sym z.1);
}

pub name_untyped : {s : Store} {env : List TyId} {t : TyId} {vs : List MsgId} {x : ℕ} → slice_get env x ≡ None → IsTyped s env (name x) t vs false
name_untyped {s} {vs = vs} {x = x} g = record { at = λ e u st m a. ap (λ o. as_name o (filled (values_of s.messages vs) u)) (sym (stand_none_at st x g)) }

-- messages without parts
pub typed_as : {E : Type 0} (s : Store) (env : List TyId) {n n' : Message} (t : TyId) (vs : List MsgId) → n ≡ n' → (r : Result Bool E) → IfOk r (IsTyped s env n t vs) → IfOk r (IsTyped s env n' t vs)
typed_as s env t vs q (Ok b) h = subst (λ n. IsTyped s env n t vs b) q h
typed_as s env t vs q (Err e) h = tt

pub labelled_as : {E : Type 0} (s : Store) (env : List TyId) {n n' : Message} → n ≡ n' → (r : Result Bool E) → IfOk r (IsLabelled s env n) → IfOk r (IsLabelled s env n')
labelled_as s env q (Ok b) h = subst (λ n. IsLabelled s env n b) q h
labelled_as s env q (Err e) h = tt

pub bound_untyped : {s : Store} {env : List TyId} {n : Message} {t : TyId} {vs : List MsgId} {i : ℕ} → n ≡ bound i → IsTyped s env n t vs false
bound_untyped {s} {vs = vs} q = record { at = λ e u st m a. sym (ap (λ n. typed n e (filled (values_of s.messages vs) u)) q) }

pub bound_unlabelled : {s : Store} {env : List TyId} {n : Message} {i : ℕ} → n ≡ bound i → IsLabelled s env n false
bound_unlabelled q = record { at = λ e st. sym (ap (λ n. labelled n e) q) }

pub unit_labelled : {s : Store} {env : List TyId} {n : Message} → n ≡ unit → IsLabelled s env n true
unit_labelled q = record { at = λ e st. sym (ap (λ n. labelled n e) q) }

pub name_labelled : {s : Store} {env : List TyId} {n : Message} {x : ℕ} → n ≡ name x → IsLabelled s env n (nat_lt x (length env))
name_labelled {env = env} {x = x} q = record { at = λ e st. ap (nat_lt x) (stand_length st) ∙ sym (ap (λ n. labelled n e) q) }

un_filled : (vs : List Message) (u : Ty) → is_un (filled vs u) ≡ is_un u
un_filled vs un = refl
un_filled vs _ = refl

unit_filled : (vs : List Message) (u : Ty) → is_unit (filled vs u) ≡ is_unit u
unit_filled vs un = refl
unit_filled vs _ = refl

pub unit_typed : {s : Store} {env : List TyId} {n : Message} {t : TyId} {vs : List MsgId} → n ≡ unit → (b : Bool) → ((u : Ty) → Means s t.place u → b ≡ is_unit u) → IsTyped s env n t vs b
unit_typed {s} {vs = vs} q b f = record { at = λ e u st m a. f u m ∙ sym (unit_filled (values_of s.messages vs) u) ∙ sym (ap (λ n. typed n e (filled (values_of s.messages vs) u)) q) }

-- messages that have no type but Un
pub sealed_typed : {E : Type 0} {s : Store} (env : List TyId) {n x y : Message} {t : TyId} (vs : List MsgId) {c : Bool} → n ≡ enc x y → ((u : Ty) → Means s t.place u → c ≡ is_un u) → c ≡ true → (r : Result Bool E) → IfOk r (IsLabelled s env (enc x y)) → IfOk r (IsTyped s env n t vs)
sealed_typed {s = s} env {x = x} {y = y} vs q f w (Ok b) h = record {
  at = λ e u st m a.
      let v = filled (values_of s.messages vs) u in
      let z : is_un v ≡ true = un_filled (values_of s.messages vs) u ∙ sym (f u m) ∙ w in
      h.at e st ∙ ap (λ d. d && labelled (enc x y) e) (sym z) ∙ sym (ap (λ n. typed n e v) q);
}
sealed_typed env vs q f w (Err e) h = tt

pub sealed_untyped : {s : Store} {env : List TyId} {n x y : Message} {t : TyId} {vs : List MsgId} {c : Bool} → n ≡ enc x y → ((u : Ty) → Means s t.place u → c ≡ is_un u) → c ≡ false → IsTyped s env n t vs false
sealed_untyped {s} {x = x} {y = y} {vs = vs} q f w = record {
  at = λ e u st m a.
      let v = filled (values_of s.messages vs) u in
      let z : is_un v ≡ false = un_filled (values_of s.messages vs) u ∙ sym (f u m) ∙ w in
      ap (λ d. d && labelled (enc x y) e) (sym z) ∙ sym (ap (λ n. typed n e v) q);
}

pub hash_typed : {E : Type 0} {s : Store} (env : List TyId) {n x : Message} {t : TyId} (vs : List MsgId) {c : Bool} → n ≡ hash x → ((u : Ty) → Means s t.place u → c ≡ is_un u) → c ≡ true → (r : Result Bool E) → IfOk r (IsLabelled s env x) → IfOk r (IsTyped s env n t vs)
hash_typed {s = s} env {x = x} vs q f w (Ok b) h = record {
  at = λ e u st m a.
      let v = filled (values_of s.messages vs) u in
      let z : is_un v ≡ true = un_filled (values_of s.messages vs) u ∙ sym (f u m) ∙ w in
      h.at e st ∙ ap (λ d. d && labelled x e) (sym z) ∙ sym (ap (λ n. typed n e v) q);
}
hash_typed env vs q f w (Err e) h = tt

pub hash_untyped : {s : Store} {env : List TyId} {n x : Message} {t : TyId} {vs : List MsgId} {c : Bool} → n ≡ hash x → ((u : Ty) → Means s t.place u → c ≡ is_un u) → c ≡ false → IsTyped s env n t vs false
hash_untyped {s} {x = x} {vs = vs} q f w = record {
  at = λ e u st m a.
      let v = filled (values_of s.messages vs) u in
      let z : is_un v ≡ false = un_filled (values_of s.messages vs) u ∙ sym (f u m) ∙ w in
      ap (λ d. d && labelled x e) (sym z) ∙ sym (ap (λ n. typed n e v) q);
}

-- types that a form of message doesn't have
not_as_pair : {s : Store} {p : TyPart} {u : Ty} (f g : Ty → Bool) (a : Message) (vs : List Message) → SaysTy s p u → (p ≡ Un → ⊥) → ((x y : TyId) → p ≡ Pair x y → ⊥) → false ≡ as_pair f g a (filled vs u)
not_as_pair f g a vs says_un h k = absurd (h refl)
not_as_pair f g a vs (says_pair_ty {a = x} {b = y} m n) h k = absurd (k x y refl)
not_as_pair f g a vs _ h k = refl

pub pair_untyped : {s : Store} {env : List TyId} {a b : Message} {t : TyId} {vs : List MsgId} {p : TyPart} → ((u : Ty) → Means s t.place u → SaysTy s p u) → (p ≡ Un → ⊥) → ((x y : TyId) → p ≡ Pair x y → ⊥) → IsTyped s env (pair a b) t vs false
pair_untyped {s} {a = a} {b = b} {vs = vs} f h k = record { at = λ e u st m w. not_as_pair (typed a e) (typed b e) a (values_of s.messages vs) (f u m) h k }

-- the sides of a sum
pub un_sides : {s : Store} {t : TyId} → ((u : Ty) → Means s t.place u → u ≡ un) → AreSidesOf s t t t
un_sides f = record { at = λ u m. (u, u, subst (λ x. AreSides x x x) (sym (f u m)) sides_of_un, m, m) }

pub sum_sides : {s : Store} {t x y : TyId} → TwoTys s t x y sum_ty → AreSidesOf s t x y
sum_sides w = record { at = λ u m. let z = w.at u m in (z.0, z.1, subst (λ x. AreSides x z.0 z.1) (sym z.2) sides_of_sum, z.3, z.4) }

no_sides_says : {s : Store} {p : TyPart} {u v w : Ty} → AreSides u v w → SaysTy s p u → (p ≡ Un → ⊥) → ((x y : TyId) → p ≡ Sum x y → ⊥) → ⊥
no_sides_says sides_of_un says_un h k = h refl
no_sides_says sides_of_sum (says_sum {a = x} {b = y} m n) h k = k x y refl

pub no_sides : {s : Store} {t : TyId} {p : TyPart} → ((u : Ty) → Means s t.place u → SaysTy s p u) → (p ≡ Un → ⊥) → ((x y : TyId) → p ≡ Sum x y → ⊥) → HasNoSides s t
no_sides f h k = record { none = λ u v w m e. no_sides_says e (f u m) h k }

pub side_given : {s : Store} {t x y : TyId} → AreSidesOf s t x y → IsGiven s t.place → IsGiven s x.place × IsGiven s y.place
side_given w g = let z = w.at g.type g.means in (record { type = z.0; means = z.3 }, record { type = z.1; means = z.4 })

as_sides : {u v w : Ty} (f : Ty → Bool) (vs : List Message) → AreSides u v w → (f (filled vs v) ≡ as_left f (filled vs u)) × (f (filled vs w) ≡ as_right f (filled vs u))
as_sides f vs sides_of_un = (refl, refl)
as_sides f vs sides_of_sum = (refl, refl)

not_as_side : (u : Ty) → ((v w : Ty) → AreSides u v w → ⊥) → (f : Ty → Bool) (vs : List Message) → (false ≡ as_left f (filled vs u)) × (false ≡ as_right f (filled vs u))
not_as_side un h f vs = absurd (h un un sides_of_un)
not_as_side (sum_ty v w) h f vs = absurd (h v w sides_of_sum)
not_as_side _ h f vs = (refl, refl)

-- a message over another, whose type is a side of its own
side_typed : {E : Type 0} {s : Store} (env : List TyId) (n a : Message) {t x : TyId} (vs : List MsgId) (side : (Ty → Bool) → Ty → Bool) → ((e : Env) (u : Ty) → typed n e u ≡ side (typed a e) u) → ((u : Ty) → Means s t.place u → (v : Ty) × Means s x.place v × ((f : Ty → Bool) (us : List Message) → f (filled us v) ≡ side f (filled us u))) → (r : Result Bool E) → IfOk r (IsTyped s env a x vs) → IfOk r (IsTyped s env n t vs)
side_typed {s = s} env n a vs side q g (Ok b) h = record {
  at = λ e u st m w.
      let us = values_of s.messages vs in
      let z = g u m in
      h.at e z.0 st z.1 w ∙ z.2 (typed a e) us ∙ sym (q e (filled us u));
}
side_typed env n a vs side q g (Err x) h = tt

pub left_side_typed : {E : Type 0} {s : Store} (env : List TyId) {n a : Message} {t x y : TyId} (vs : List MsgId) → n ≡ in_left a → AreSidesOf s t x y → (r : Result Bool E) → IfOk r (IsTyped s env a x vs) → IfOk r (IsTyped s env n t vs)
left_side_typed env {n = n} {a = a} vs q g r h = side_typed env n a vs as_left (λ e u. ap (λ m. typed m e u) q) (λ u m. let z = g.at u m in (z.0, z.3, λ f us. (as_sides f us z.2).0)) r h

pub right_side_typed : {E : Type 0} {s : Store} (env : List TyId) {n a : Message} {t x y : TyId} (vs : List MsgId) → n ≡ in_right a → AreSidesOf s t x y → (r : Result Bool E) → IfOk r (IsTyped s env a y vs) → IfOk r (IsTyped s env n t vs)
right_side_typed env {n = n} {a = a} vs q g r h = side_typed env n a vs as_right (λ e u. ap (λ m. typed m e u) q) (λ u m. let z = g.at u m in (z.1, z.4, λ f us. (as_sides f us z.2).1)) r h

pub left_side_untyped : {s : Store} {env : List TyId} {n a : Message} {t : TyId} {vs : List MsgId} → n ≡ in_left a → HasNoSides s t → IsTyped s env n t vs false
left_side_untyped {s} {a = a} {vs = vs} q g = record { at = λ e u st m w. (not_as_side u (λ v x. g.none u v x m) (typed a e) (values_of s.messages vs)).0 ∙ sym (ap (λ n. typed n e (filled (values_of s.messages vs) u)) q) }

pub right_side_untyped : {s : Store} {env : List TyId} {n a : Message} {t : TyId} {vs : List MsgId} → n ≡ in_right a → HasNoSides s t → IsTyped s env n t vs false
right_side_untyped {s} {a = a} {vs = vs} q g = record { at = λ e u st m w. (not_as_side u (λ v x. g.none u v x m) (typed a e) (values_of s.messages vs)).1 ∙ sym (ap (λ n. typed n e (filled (values_of s.messages vs) u)) q) }

-- an answer over a store that has grown
pub later_typed : {s r : Store} {env : List TyId} {b : MsgId} {t : TyId} {vs ws : List MsgId} {c : Bool} → Keeps s r → b.place < length s.messages → AreIdsBelow vs (length s.messages) → ws ≡ vs → IsTyped r env (message_at r.messages b) t ws c → IsTyped s env (message_at s.messages b) t vs c
later_typed {s} {r} {env} {b} {t} {vs} {ws} {c} k l v q h =
    let vals : values_of r.messages ws ≡ values_of s.messages vs = ap (values_of r.messages) q ∙ values_keep vs k.messages v in
    record { at = λ e u st m a. h.at e u (stand_keeps k st) (means_keeps k m) (subst AllStay (sym vals) a) ∙ (λ i. typed (message_keeps b k.messages l i) e (filled (vals i) u)) }

pub later_labelled : {s r : Store} {env : List TyId} {b : MsgId} {c : Bool} → Keeps s r → b.place < length s.messages → IsLabelled r env (message_at r.messages b) c → IsLabelled s env (message_at s.messages b) c
later_labelled {b = b} k l h = record { at = λ e st. h.at e (stand_keeps k st) ∙ ap (λ n. labelled n e) (message_keeps b k.messages l) }

-- a pair at Un
pub pair_un : {E : Type 0} {s r : Store} {env : List TyId} (x y : MsgId) {t : TyId} {vs ws : List MsgId} {c : Bool} → ((u : Ty) → Means s t.place u → u ≡ un) → IsTyped s env (message_at s.messages x) t vs c → c ≡ true → Keeps s r → y.place < length s.messages → AreIdsBelow vs (length s.messages) → ws ≡ vs → (o : Result Bool E) → IfOk o (IsTyped r env (message_at r.messages y) t ws) → IfOk o (IsTyped s env (pair (message_at s.messages x) (message_at s.messages y)) t vs)
pair_un {s = s} x y {t = t} {vs = vs} f h q k l v p (Ok b) g = record {
  at = λ e u st m w.
      let us = values_of s.messages vs in
      let a = message_at s.messages x in
      let d = message_at s.messages y in
      let z : typed a e un ≡ true = sym (ap (λ v. typed a e (filled us v)) (f u m)) ∙ sym (h.at e u st m w) ∙ q in
      (later_typed k l v p g).at e u st m w ∙ ap (λ v. typed d e (filled us v)) (f u m) ∙ ap (λ b. b && typed d e un) (sym z) ∙ ap (λ v. typed (pair a d) e (filled us v)) (sym (f u m));
}
pair_un x y f h q k l v p (Err e) g = tt

pub pair_un_not : {s : Store} {env : List TyId} {a d : Message} {t : TyId} {vs : List MsgId} {c : Bool} → ((u : Ty) → Means s t.place u → u ≡ un) → IsTyped s env a t vs c → c ≡ false → IsTyped s env (pair a d) t vs false
pair_un_not {s} {a = a} {d = d} {vs = vs} f h q = record {
  at = λ e u st m w.
      let us = values_of s.messages vs in
      let z : typed a e un ≡ false = sym (ap (λ v. typed a e (filled us v)) (f u m)) ∙ sym (h.at e u st m w) ∙ q in
      ap (λ b. b && typed d e un) (sym z) ∙ ap (λ v. typed (pair a d) e (filled us v)) (sym (f u m));
}

-- a pair at a type of pairs
pub pair_not : {s : Store} {env : List TyId} {a d : Message} {t x y : TyId} {vs : List MsgId} {c : Bool} → TwoTys s t x y pair_ty → IsTyped s env a x vs c → c ≡ false → IsTyped s env (pair a d) t vs false
pair_not {s} {a = a} {d = d} {vs = vs} t h q = record {
  at = λ e u st m w.
      let us = values_of s.messages vs in
      let z = t.at u m in
      let f : typed a e (filled us z.0) ≡ false = sym (h.at e z.0 st z.3 w) ∙ q in
      ap (λ b. b && typed d e (ty_put a (ty_map (fill us) 1 z.1))) (sym f) ∙ ap (λ v. typed (pair a d) e (filled us v)) (sym z.2);
}

pub values_push : (ms : List Message) (vs : List MsgId) (x : MsgId) → values_of ms (vs ++ x ∷ []) ≡ values_of ms vs ++ message_at ms x ∷ []
values_push ms [] x = refl
values_push ms (v ∷ vs) x = ap (λ l. message_at ms v ∷ l) (values_push ms vs x)

below_push : (vs : List MsgId) (x : MsgId) (n : ℕ) → ((i : ℕ) (id : MsgId) → slice_get vs i ≡ Some id → id.place < n) → x.place < n → (i : ℕ) (id : MsgId) → slice_get (vs ++ x ∷ []) i ≡ Some id → id.place < n
below_push [] x n f h zero id e = let q : x ≡ id = cc in subst (λ z. z.place < n) q h
below_push [] x n f h (suc i) id e = absurd cc
below_push (v ∷ vs) x n f h zero id e = f zero id e
below_push (v ∷ vs) x n f h (suc i) id e = below_push vs x n (λ j. f (suc j)) h i id e

pub below_more : {vs ws : List MsgId} {x : MsgId} {n : ℕ} → AreIdsBelow vs n → x.place < n → ws ≡ vs ++ x ∷ [] → AreIdsBelow ws n
below_more {vs} {x = x} {n = n} h l q = subst (λ us. AreIdsBelow us n) (sym q) record { at = below_push vs x n h.at l }

-- the values with one more, which has a type
pub stay_typed : {s : Store} {env : List TyId} (a : MsgId) {x : TyId} {vs : List MsgId} {c : Bool} → IsTyped s env (message_at s.messages a) x vs c → c ≡ true → (e : Env) (v : Ty) → StandFor s env e → Means s x.place v → AllStay (values_of s.messages vs) → AllStay (values_of s.messages (vs ++ a ∷ []))
stay_typed {s} a {vs = vs} h q e v st m w =
    let us = values_of s.messages vs in
    let n = message_at s.messages a in
    subst AllStay (sym (values_push s.messages vs a)) (stay_push us n w (typed_stays e n (filled us v) (sym (h.at e v st m w) ∙ q)))

pub pair_pair : {s r : Store} {env : List TyId} {a d : MsgId} {t x y : TyId} {vs ws : List MsgId} {c b : Bool} → TwoTys s t x y pair_ty → IsTyped s env (message_at s.messages a) x vs c → c ≡ true → Keeps s r → a.place < length s.messages → d.place < length s.messages → AreIdsBelow vs (length s.messages) → ws ≡ vs ++ a ∷ [] → IsTyped r env (message_at r.messages d) y ws b → IsTyped s env (pair (message_at s.messages a) (message_at s.messages d)) t vs b
pair_pair {s} {a = a} {d = d} {vs = vs} {ws = ws} t h q k l j v p g = record {
  at = λ e u st m w.
      let us = values_of s.messages vs in
      let na = message_at s.messages a in
      let nd = message_at s.messages d in
      let z = t.at u m in
      let f : typed na e (filled us z.0) ≡ true = sym (h.at e z.0 st z.3 w) ∙ q in
      let s1 : values_of s.messages (vs ++ a ∷ []) ≡ us ++ na ∷ [] = values_push s.messages vs a in
      (later_typed k j (below_more {vs = vs} {ws = vs ++ a ∷ []} v l refl) p g).at e z.1 st z.4 (stay_typed a h q e z.0 st z.3 w)
      ∙ ap (λ ns. typed nd e (filled ns z.1)) s1
      ∙ ap (typed nd e) (sym (put_filled us w na z.1))
      ∙ ap (λ b. b && typed nd e (ty_put na (ty_map (fill us) 1 z.1))) (sym f)
      ∙ ap (λ v. typed (pair na nd) e (filled us v)) (sym z.2);
}

-- labels of pairs
pub pair_labelled : {E : Type 0} {s r : Store} {env : List TyId} {n : Message} (x y : MsgId) {c : Bool} → n ≡ pair (message_at s.messages x) (message_at s.messages y) → IsLabelled s env (message_at s.messages x) c → c ≡ true → Keeps s r → y.place < length s.messages → (o : Result Bool E) → IfOk o (IsLabelled r env (message_at r.messages y)) → IfOk o (IsLabelled s env n)
pair_labelled {s = s} x y w h q k l (Ok b) g = record {
  at = λ e st.
      let z : labelled (message_at s.messages x) e ≡ true = sym (h.at e st) ∙ q in
      (later_labelled k l g).at e st ∙ ap (λ b. b && labelled (message_at s.messages y) e) (sym z) ∙ sym (ap (λ n. labelled n e) w);
}
pair_labelled x y w h q k l (Err e) g = tt

pub pair_unlabelled : {s : Store} {env : List TyId} {n a d : Message} {c : Bool} → n ≡ pair a d → IsLabelled s env a c → c ≡ false → IsLabelled s env n false
pair_unlabelled {a = a} {d = d} w h q = record {
  at = λ e st.
      let z : labelled a e ≡ false = sym (h.at e st) ∙ q in
      ap (λ b. b && labelled d e) (sym z) ∙ sym (ap (λ n. labelled n e) w);
}

-- the label of a part
pub part_labelled : {E : Type 0} (s : Store) (env : List TyId) (n a : Message) → ((e : Env) → labelled n e ≡ labelled a e) → (o : Result Bool E) → IfOk o (IsLabelled s env a) → IfOk o (IsLabelled s env n)
part_labelled s env n a w (Ok b) h = record { at = λ e st. h.at e st ∙ sym (w e) }
part_labelled s env n a w (Err e) h = tt

-- ciphertexts
and_true : (b : Bool) → (b && true) ≡ b
and_true true = refl
and_true false = refl

pub by_payload : {E : Type 0} {s : Store} {env : List TyId} (a : Message) {k : Message} {p : TyId} {vs : List MsgId} → IsPayload s env k p → vs ≡ [] → (o : Result Bool E) → IfOk o (IsTyped s env a p vs) → IfOk o (IsLabelled s env (enc a k))
by_payload {s = s} {env = env} a {k = k} {p = p} w q (Ok b) h = record {
  at = λ e st.
      let z = w.at e st in
      let g = subst (λ us. IsTyped s env a p us b) q h in
      g.at e z.0 st z.2 none_stay
      ∙ ap (typed a e) (filled_none z.0)
      ∙ key_alone e a k z.0 z.1;
}
by_payload a w q (Err e) h = tt

no_key_label : (e : Env) (a k : Message) → type_of_key e k ≡ None → labelled (enc a k) e ≡ (typed a e un && typed k e un)
no_key_label e a k h = ap (λ o. by_key (typed a e) o || (typed a e un && typed k e un)) h

pub by_un : {E : Type 0} {s p r : Store} {env : List TyId} {x k : MsgId} {t : TyId} {vs ws : List MsgId} {c : Bool} → IsNoPayload s env (message_at s.messages k) → Keeps s p → Means p t.place un → vs ≡ [] → k.place < length s.messages → IsTyped p env (message_at p.messages k) t vs c → c ≡ true → Keeps p r → ws ≡ vs → x.place < length s.messages → (o : Result Bool E) → IfOk o (IsTyped r env (message_at r.messages x) t ws) → IfOk o (IsLabelled s env (enc (message_at s.messages x) (message_at s.messages k)))
by_un {s = s} {p = p} {r = r} {env = env} {x = x} {k = k} {t = t} {vs = vs} {ws = ws} {c = c} w f u q l h y g j i (Ok b) d = record {
  at = λ e st.
      let a = message_at s.messages x in
      let n = message_at s.messages k in
      let key_at = subst (λ us. IsTyped p env (message_at p.messages k) t us c) q h in
      let body_at = subst (λ us. IsTyped r env (message_at r.messages x) t us b) (j ∙ q) d in
      let y1 : typed n e un ≡ true = sym (key_at.at e un (stand_keeps f st) u none_stay ∙ ap (λ m. typed m e un) (message_keeps k f.messages l)) ∙ y in
      body_at.at e un (stand_keeps g (stand_keeps f st)) (means_keeps g u) none_stay
      ∙ ap (λ m. typed m e un) (message_keeps x g.messages (below_keeps x f.messages i) ∙ message_keeps x f.messages i)
      ∙ sym (and_true (typed a e un))
      ∙ ap (λ c. typed a e un && c) (sym y1)
      ∙ sym (no_key_label e a n (w.at e st));
}
by_un w f u q l h y g j i (Err e) d = tt

pub not_by_un : {s p : Store} {env : List TyId} {a : Message} {k : MsgId} {t : TyId} {vs : List MsgId} {c : Bool} → IsNoPayload s env (message_at s.messages k) → Keeps s p → Means p t.place un → vs ≡ [] → k.place < length s.messages → IsTyped p env (message_at p.messages k) t vs c → c ≡ false → IsLabelled s env (enc a (message_at s.messages k)) false
not_by_un {s} {p} {env} {a} {k} {t} {vs} {c} w f u q l h y = record {
  at = λ e st.
      let n = message_at s.messages k in
      let key_at = subst (λ us. IsTyped p env (message_at p.messages k) t us c) q h in
      let y1 : typed n e un ≡ false = sym (key_at.at e un (stand_keeps f st) u none_stay ∙ ap (λ m. typed m e un) (message_keeps k f.messages l)) ∙ y in
      sym (and-false (typed a e un)) ∙ ap (λ c. typed a e un && c) (sym y1) ∙ sym (no_key_label e a n (w.at e st));
}

-- what is asked for
pub asked_part : {s : Store} {env : List TyId} {t x : TyId} {vs : List MsgId} → IsAsked s env t vs → IsGiven s x.place → IsAsked s env x vs
asked_part h g = record { names = h.names; given = g; values = h.values }

pub asked_later : {s r : Store} {env : List TyId} {t : TyId} {vs ws : List MsgId} → Keeps s r → IsAsked s env t vs → ws ≡ vs → IsAsked r env t ws
asked_later {r = r} k h q = record { names = environment_keeps k h.names; given = given_keeps k h.given; values = subst (λ us. AreIdsBelow us (length r.messages)) (sym q) (all_below_keeps k.messages h.values) }

pub asked_under : {s r : Store} {env : List TyId} {t y : TyId} {a : MsgId} {vs us ws : List MsgId} → Keeps s r → IsAsked s env t vs → IsGiven s y.place → a.place < length s.messages → us ≡ vs → ws ≡ us ++ a ∷ [] → IsAsked r env y ws
asked_under {a = a} k h g l q p = record { names = environment_keeps k h.names; given = given_keeps k g; values = below_more (all_below_keeps k.messages h.values) (below_keeps a k.messages l) (p ∙ ap (λ us. us ++ a ∷ []) q) }

pub asked_alone : {s : Store} {env : List TyId} {t : TyId} {vs : List MsgId} → IsEnvironment s env → IsGiven s t.place → vs ≡ [] → IsAsked s env t vs
asked_alone {s} h g q = record { names = h; given = g; values = subst (λ us. AreIdsBelow us (length s.messages)) (sym q) (none_below (length s.messages)) }

pub payload_is_given : {s : Store} {env : List TyId} {n : Message} {p : TyId} → IsEnvironment s env → IsPayload s env n p → IsGiven s p.place
payload_is_given h w = let z = w.at h.env h.stands in record { type = z.0; means = z.2 }
