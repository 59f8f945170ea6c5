-- What a judge stands for, and its answers as tests.
use Rattle.std.proofs.Common.{◌≡◌, ◌↔◌, ℕ, ◌<◌, Bool, true, false, List, [], Some, None, length, refl, sym, ap, subst, ◌∙◌, arith, Result, Ok, Err, IfOk}
use Rattle.std.specs.Prelude.{slice_get}
use Rattle.std.proofs.lemmas.Option.{slice_get_past}
use Rattle.spi_term.specs.Term.{Message, name, Ty, un, nonce}
use Rattle.spi_term.proofs.Choices.{truths}
use Rattle.spi_rules.specs.Environment.{Env}
use Rattle.spi_rules.specs.Messages.{HasType, IsLabel}
use Rattle.spi_rules.specs.Good.{GoodTy}
use Rattle.spi_intern.specs.Given.{IsGiven}
use Rattle.spi_intern.specs.Meaning.{Means}
use Rattle.spi_intern.specs.Lent.{SaysTy, says_nonce}
use Rattle.spi_intern.specs.declared.messages.MsgId.{MsgId}
use Rattle.spi_intern.specs.declared.types.TyId.{TyId}
use Rattle.spi_intern.specs.declared.atoms.AtomId.{AtomId}
use Rattle.spi_intern.specs.declared.store.Store.{Store}
use Rattle.spi_intern.specs.declared.store.TyPart.{TyPart}
use Rattle.spi_intern.specs.declared.store.TyPart.TheVariants.{Nonce}
use Rattle.spi_intern.proofs.Meanings.{terms_same, terms_more, means_keeps}
use Rattle.spi_message.specs.Judging.{Numbered, Stands, StandFor, IsKept}
use Rattle.spi_message.specs.Asking.{IsEnvironment}
use Rattle.spi_message.specs.Tests.{typed, labelled, good, nonce_in}
use Rattle.spi_message.proofs.Deciding.{typed_true, typed_from, labelled_true, labelled_from, good_true, good_from}
use Rattle.spi_message.proofs.Standing.{stand_keeps, stand_at, stand_none_at}
use Rattle.spi_message.specs.Forms.{is_nonce}
use Rattle.spi_message.specs.Tested.{IsTest, NumbersMessage, NumbersType, IsNonceAt, IsNoNonce}
use denote.Ref.{Bor}

pub kept_more : {a b c : Numbered} → IsKept a b → IsKept b c → IsKept a c
kept_more k l = record { store = terms_more k.store l.store; free = l.free ∙ k.free; types = l.types ∙ k.types }

pub kept_same : (a : Numbered) → IsKept a a
kept_same a = record { store = terms_same a.store; free = refl; types = refl }

-- what a judge stands for stays
pub stands_kept : {j k : Numbered} {e : Env} → IsKept j k → Stands j e → Stands k e
stands_kept {j} {k} {e} h s = subst (λ ids. StandFor k.store ids e) (sym h.types) (stand_keeps h.store s)

pub env_kept : {j k : Numbered} → IsKept j k → IsEnvironment j.store j.types → IsEnvironment k.store k.types
env_kept {j} {k} h s = record { env = s.env; stands = stands_kept {j = j} {k = k} h s.stands }

pub message_kept : {j k : Numbered} (i : ℕ) (m : Message) → IsKept j k → slice_get j.store.messages i ≡ Some m → slice_get k.store.messages i ≡ Some m
message_kept i m h e = h.store.messages.at i m e

pub type_kept : {j k : Numbered} (i : ℕ) (t : Ty) → IsKept j k → Means j.store i t → Means k.store i t
type_kept i t h m = means_keeps h.store m

-- questions about numbers
pub typed_answer : {E : Type 0} (j : Numbered) (i : MsgId) (t : TyId) (r : Result Bool E) → IfOk r (λ b. (e : Env) (n : Message) (v : Ty) → Stands j e → slice_get j.store.messages i.place ≡ Some n → Means j.store t.place v → (b ≡ true) ↔ HasType [] e n v) → IfOk r (λ b. (n : Message) (u : Ty) → NumbersMessage j i n → NumbersType j t u → IsTest j (λ e. typed n e u) b)
typed_answer j i t (Ok b) f = λ n u a w. record {
  at = λ e s.
      let q = f e n u s a w in
      truths b (typed n e u) (λ y. typed_from (q.0 y)) (λ y. q.1 (typed_true n e u y));
}
typed_answer j i t (Err x) f = tt

pub labelled_answer : {E : Type 0} (j : Numbered) (i : MsgId) (r : Result Bool E) → IfOk r (λ b. (e : Env) (n : Message) → Stands j e → slice_get j.store.messages i.place ≡ Some n → (b ≡ true) ↔ IsLabel [] e n) → IfOk r (λ b. (n : Message) → NumbersMessage j i n → IsTest j (labelled n) b)
labelled_answer j i (Ok b) f = λ n a. record {
  at = λ e s.
      let q = f e n s a in
      truths b (labelled n e) (λ y. labelled_from (q.0 y)) (λ y. q.1 (labelled_true n e y));
}
labelled_answer j i (Err x) f = tt

pub good_answer : {E : Type 0} (j : Numbered) (t : TyId) (r : Result Bool E) → IfOk r (λ b. (e : Env) (v : Ty) → Stands j e → Means j.store t.place v → (b ≡ true) ↔ GoodTy [] e v) → IfOk r (λ b. (u : Ty) → NumbersType j t u → IsTest j (λ e. good e u) b)
good_answer j t (Ok b) f = λ u w. record {
  at = λ e s.
      let q = f e u s w in
      truths b (good e u) (λ y. good_from e u (q.0 y)) (λ y. q.1 (good_true e u y));
}
good_answer j t (Err x) f = tt

-- questions about written terms
pub labelled_test : {E : Type 0} (j k : Numbered) (i : MsgId) (m : Message) → IsKept j k → slice_get k.store.messages i.place ≡ Some m → (r : Result Bool E) → IfOk r (λ b. (e : Env) (n : Message) → Stands k e → slice_get k.store.messages i.place ≡ Some n → (b ≡ true) ↔ IsLabel [] e n) → IfOk r (IsTest j (labelled m))
labelled_test j k i m h a (Ok b) f = record {
  at = λ e s.
      let q = f e m (stands_kept {j = j} {k = k} h s) a in
      truths b (labelled m e) (λ y. labelled_from (q.0 y)) (λ y. q.1 (labelled_true m e y));
}
labelled_test j k i m h a (Err x) f = tt

pub good_test : {E : Type 0} (j k : Numbered) (t : TyId) (u : Ty) → IsKept j k → Means k.store t.place u → (r : Result Bool E) → IfOk r (λ b. (e : Env) (v : Ty) → Stands k e → Means k.store t.place v → (b ≡ true) ↔ GoodTy [] e v) → IfOk r (IsTest j (λ e. good e u))
good_test j k t u h w (Ok b) f = record {
  at = λ e s.
      let q = f e u (stands_kept {j = j} {k = k} h s) w in
      truths b (good e u) (λ y. good_from e u (q.0 y)) (λ y. q.1 (good_true e u y));
}
good_test j k t u h w (Err x) f = tt

-- names of Nonce types
pub not_nonce_says : {s : Store} {p : TyPart} {u : Ty} → SaysTy s p u → ((ids : Bor (List AtomId)) → p ≡ Nonce ids → ⊥) → false ≡ is_nonce (nonce_in (Some u))
not_nonce_says (says_nonce {ids = ids} m) h = absurd (h ids refl)
not_nonce_says _ h = refl

pub nonce_there : (u : Ty) → is_nonce (nonce_in (Some u)) ≡ true → (es : _) × (u ≡ nonce es)
nonce_there un h = absurd (cc)
nonce_there (nonce es) h = (es, refl)
nonce_there _ h = absurd (cc)

nonce_absent : (u : Ty) → is_nonce (nonce_in (Some u)) ≡ false → nonce_in (Some u) ≡ None
nonce_absent (nonce es) h = absurd (cc)
nonce_absent _ h = refl

pub nonce_found : (j : Numbered) (x : ℕ) {t : TyId} {b : Bool} → slice_get j.types x ≡ Some t → ((u : Ty) → Means j.store t.place u → b ≡ is_nonce (nonce_in (Some u))) → b ≡ true → IsNonceAt j (name x) t
nonce_found j x {t = t} g f h = record {
  at = λ e s.
      let w = stand_at s x t g in
      let n = nonce_there w.0 (sym (f w.0 w.2) ∙ h) in
      (n.0, ap nonce_in (w.1 ∙ ap Some n.1), subst (Means j.store t.place) n.1 w.2);
}

pub nonce_missed : (j : Numbered) (x : ℕ) {t : TyId} {b : Bool} → slice_get j.types x ≡ Some t → ((u : Ty) → Means j.store t.place u → b ≡ is_nonce (nonce_in (Some u))) → b ≡ false → IsNoNonce j (name x)
nonce_missed j x {t = t} g f h = record {
  at = λ e s.
      let w = stand_at s x t g in
      ap nonce_in w.1 ∙ nonce_absent w.0 (sym (f w.0 w.2) ∙ h);
}

pub nonce_given : (j : Numbered) (x : ℕ) {t : TyId} → IsEnvironment j.store j.types → slice_get j.types x ≡ Some t → IsGiven j.store t.place
nonce_given j x {t = t} h g = let w = stand_at h.stands x t g in record { type = w.0; means = w.2 }

pub nonce_past : (j : Numbered) (x : ℕ) → (x < length j.types → ⊥) → IsNoNonce j (name x)
nonce_past j x h = record { at = λ e s. ap nonce_in (stand_none_at s x (slice_get_past j.types x (omega (arith, h)))) }
