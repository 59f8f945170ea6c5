-- Names of Key types, and ciphertexts under them.
use Rattle.std.proofs.Common.{◌≡◌, refl, sym, ap, ◌∙◌, subst, ℕ, ◌<◌, length, arith, Bool, true, List, [], ◌∷◌, Option, Some, None, IfSome, IfNone}
use Rattle.std.proofs.lemmas.Option.{slice_get_within}
use Rattle.std.specs.Prelude.{slice_get}
use Rattle.spi_term.specs.Lists.{At}
use Rattle.spi_term.specs.Term.{Message, name, enc, Ty, un, key}
use Rattle.spi_term.proofs.Lists.{at_get, get_at, some_is}
use Rattle.spi_rules.specs.Environment.{Env}
use Rattle.spi_rules.specs.declared.rule.Rule.TheVariants.{MsgEnc}
use Rattle.spi_intern.specs.declared.store.Store.{Store}
use Rattle.spi_intern.specs.declared.messages.MsgId.{MsgId}
use Rattle.spi_intern.specs.declared.messages.MsgPart.{MsgPart}
use Rattle.spi_intern.specs.declared.messages.MsgPart.TheVariants as P
use Rattle.spi_intern.specs.declared.types.TyId.{TyId}
use Rattle.spi_intern.specs.Meaning.{Means}
use Rattle.spi_intern.specs.Messages.{Says, says_name, says_enc}
use Rattle.spi_message.specs.Judging.{Numbered, Stands}
use Rattle.spi_message.specs.Asking.{IsKeyFor, IsNoKey}
use Rattle.spi_message.specs.Tests.{is_un, key_in}
use Rattle.spi_message.proofs.Standing.{stand_at, stand_length}
use Rattle.spi_audit.specs.declared.asked.Asked.TheVariants as A
use Rattle.spi_audit.specs.declared.asked.Premises.TheVariants.{OnePremise}
use Rattle.spi_audit.specs.Fits.{Subject, of_message, plain, Fits, fits_enc}
use Rattle.spi_audit.specs.Asked.{asked_none, asked_next, AnsweredMessage, AnswersPart, IsKeyAt, IsNoKeyAt}
use Rattle.spi_audit.proofs.Replies.{is_there}

-- the payload of the type of a name
module _ (j : Numbered) (x : ℕ) where
  module _ (i : TyId) (g : slice_get j.types x ≡ Some i) where
    pub key_at : (r : Option TyId) → IfSome r (IsKeyFor j.store i) → IfSome r (IsKeyAt j (name x))
    key_at None h = tt
    key_at (Some t) h = record { at = at }
      where
        at : (e : Env) → Stands j e → (y : ℕ) × (v : Ty) × (name x ≡ name y) × At e y (key v) × Means j.store t.place v
        at e s =
            let (u, f, m) = stand_at s x i g in
            let (v, q, w) = h.at u m in
            (x, v, refl, get_at e x (f ∙ ap Some q), w)

    pub no_key_at : (r : Option TyId) → IfNone r (IsNoKey j.store i) → IfNone r (IsNoKeyAt j (name x))
    no_key_at (Some t) h = tt
    no_key_at None h = record { at = at }
      where
        at : (e : Env) (y : ℕ) (v : Ty) → Stands j e → name x ≡ name y → At e y (key v) → ⊥
        at e y v s q a =
            let (u, f, m) = stand_at s x i g in
            let p : x ≡ y = cc in
            let b : slice_get e x ≡ Some (key v) = subst (λ z. slice_get e z ≡ Some (key v)) (sym p) (at_get a) in
            let k : u ≡ key v = some_is (sym f ∙ b) in
            let n : Some v ≡ None = ap (λ (u : Ty). key_in (Some u)) (sym k) ∙ h.at u m in
            absurd (cc n)

  pub no_key_past : (x < length j.types → ⊥) → IsNoKeyAt j (name x)
  no_key_past l = record { at = at }
    where
      at : (e : Env) (y : ℕ) (v : Ty) → Stands j e → name x ≡ name y → At e y (key v) → ⊥
      at e y v s q a =
          let p : x ≡ y = cc in
          let b = slice_get_within e y (key v) (at_get a) in
          let k = stand_length s in
          l (omega (arith, b, k, p))

-- a message that is a name, and one that is none
no_name_said : {ms : List Message} {p : MsgPart} {m : Message} → ((x : ℕ) → p ≡ P.Name x → ⊥) → Says ms p m → (x : ℕ) → m ≡ name x → ⊥
no_name_said d (says_name {x = y}) x q = d y refl
no_name_said d _ x q = absurd (cc)

name_said : {ms : List Message} {x : ℕ} {m : Message} → Says ms (P.Name x) m → m ≡ name x
name_said says_name = refl

module _ {r : Store} (j : Numbered) (e : r ≡ j.store) (i : ℕ) where
  said_there : (p : MsgPart) → ((n : Message) → slice_get r.messages i ≡ Some n → Says r.messages p n) → (k : Message) → slice_get j.store.messages i ≡ Some k → Says j.store.messages p k
  said_there p h k g = let P = λ (s : Store). (n : Message) → slice_get s.messages i ≡ Some n → Says s.messages p n in subst P e h k g

  pub key_said : (x : ℕ) → ((n : Message) → slice_get r.messages i ≡ Some n → Says r.messages (P.Name x) n) → (o : Option TyId) → IfSome o (IsKeyAt j (name x)) → IfSome o (λ t. (k : Message) → slice_get j.store.messages i ≡ Some k → IsKeyAt j k t)
  key_said x h None a = tt
  key_said x h (Some t) a = λ k g. subst (λ m. IsKeyAt j m t) (sym (name_said (said_there (P.Name x) h k g))) a

  pub no_key_said : (x : ℕ) → ((n : Message) → slice_get r.messages i ≡ Some n → Says r.messages (P.Name x) n) → (o : Option TyId) → IfNone o (IsNoKeyAt j (name x)) → IfNone o ((k : Message) → slice_get j.store.messages i ≡ Some k → IsNoKeyAt j k)
  no_key_said x h (Some t) a = tt
  no_key_said x h None a = λ k g. subst (λ m. IsNoKeyAt j m) (sym (name_said (said_there (P.Name x) h k g))) a

  pub no_name : (p : MsgPart) → ((x : ℕ) → p ≡ P.Name x → ⊥) → ((n : Message) → slice_get r.messages i ≡ Some n → Says r.messages p n) → (k : Message) → slice_get j.store.messages i ≡ Some k → IsNoKeyAt j k
  no_name p d h k g = record { at = λ e x v s q a. no_name_said d (said_there p h k g) x q }

-- a ciphertext under a name of a Key type
module _ (j : Numbered) (t : TyId) (b : Bool) (told : (u : Ty) → Means j.store t.place u → b ≡ is_un u) (x y : MsgId) where
  pub enc_not : ((k : Message) → slice_get j.store.messages y.place ≡ Some k → IsNoKeyAt j k) → AnswersPart j j MsgEnc (P.Enc x y) t None
  enc_not h = record { at = λ env m u s w n. go s w }
    where
      go : {env : Env} {m : Message} {u : Ty} → Stands j env → Says j.store.messages (P.Enc x y) m → (ps : List Subject) → Fits (plain MsgEnc) (of_message env m u) ps → ⊥
      go {env = env} s (says_enc g k) ps (fits_enc {x = z} {t = v} a) = (h (name z) k).at env z v s refl a

  pub enc_fits : (p : TyId) → b ≡ true → ((k : Message) → slice_get j.store.messages y.place ≡ Some k → IsKeyAt j k p) → AnswersPart j j MsgEnc (P.Enc x y) t (Some (OnePremise (A.Message x p)))
  enc_fits p e h = record { at = λ env m u s w n. go s w u (is_there j t b told e u n) }
    where
      go : {env : Env} {m : Message} → Stands j env → Says j.store.messages (P.Enc x y) m → (u : Ty) → u ≡ un → AnsweredMessage j.store env (plain MsgEnc) m u (Some (OnePremise (A.Message x p)))
      go {env = env} s (says_enc {m = k} {n = l} g f) u q =
          let (z, v, r, a, m) = (h l f).at env s in
          let w : AnsweredMessage j.store env (plain MsgEnc) (enc k (name z)) un (Some (OnePremise (A.Message x p)))
          = (of_message env k v ∷ [], fits_enc a, asked_next record { id = x; ty = p; is = refl; at = g; means = m } asked_none) in
          let d : AnsweredMessage j.store env (plain MsgEnc) (enc k l) un (Some (OnePremise (A.Message x p)))
          = subst (λ l. AnsweredMessage j.store env (plain MsgEnc) (enc k l) un (Some (OnePremise (A.Message x p)))) (sym r) w in
          subst (λ u. AnsweredMessage j.store env (plain MsgEnc) (enc k l) u (Some (OnePremise (A.Message x p)))) (sym q) d
