-- Pairs and hashes, and the parts of a message by their numbers.
use Rattle.std.proofs.Common.{◌≡◌, refl, sym, ◌∙◌, subst, ℕ, ◌<◌, length, ◌↔◌, Bool, true, false, true≢false, List, [], ◌∷◌, Some, None}
use Rattle.std.proofs.lemmas.Option.{slice_get_within}
use Rattle.std.specs.Prelude.{slice_get}
use Rattle.spi_term.specs.Substitution.{ty_put}
use Rattle.spi_term.specs.Term.{Message, bound, pair, hash, Ty, un, pair_ty}
use Rattle.spi_term.proofs.Lists.{get_some}
use Rattle.spi_rules.specs.Environment.{Env}
use Rattle.spi_rules.specs.Messages.{IsLabel}
use Rattle.spi_rules.specs.declared.rule.Rule.{Rule}
use Rattle.spi_rules.specs.declared.rule.Rule.TheVariants.{MsgPair, MsgHash}
use Rattle.spi_intern.specs.declared.store.Store.{Store}
use Rattle.spi_intern.specs.declared.messages.MsgId.{MsgId}
use Rattle.spi_intern.specs.declared.messages.MsgPart.{MsgPart}
use Rattle.spi_intern.specs.declared.messages.MsgPart.TheVariants as P
use Rattle.spi_intern.specs.declared.types.TyId.{TyId}
use Rattle.spi_intern.specs.Given.{IsGiven}
use Rattle.spi_intern.specs.Meaning.{Means}
use Rattle.spi_intern.specs.Messages.{Says, says_bound, says_pair, says_enc, says_hash}
use Rattle.spi_intern.proofs.Meanings.{means_keeps}
use Rattle.spi_message.specs.Judging.{Numbered, Stands, IsKept}
use Rattle.spi_message.specs.Tests.{is_un}
use Rattle.spi_audit.specs.declared.asked.Asked.TheVariants as A
use Rattle.spi_audit.specs.declared.asked.Premises.TheVariants.{NoPremise, TwoPremises}
use Rattle.spi_audit.specs.Fits.{Subject, of_message, plain, Fits, fits_pair, fits_hash}
use Rattle.spi_audit.specs.Asked.{asked_none, asked_next, AnsweredMessage, AnswersPart, AnswersMessage, IsPairOf, IsNoPair}
use Rattle.spi_audit.proofs.Replies.{is_there}

-- a pair of a pair type
pub pair_given : {s : Store} {t a b : TyId} → IsPairOf s t a b → IsGiven s t.place → IsGiven s b.place
pair_given p g = let (v, w, q, m, n) = p.at g.type g.means in record { type = w; means = n }

pub pair_fits : (j k : Numbered) (t a b r : TyId) (x y : MsgId) → IsKept j k → IsPairOf j.store t a b → ((u : Ty) (n : Message) → Means j.store b.place u → slice_get j.store.messages x.place ≡ Some n → Means k.store r.place (ty_put n u)) → AnswersPart j k MsgPair (P.Pair x y) t (Some (TwoPremises (A.Message x a) (A.Message y r)))
pair_fits j k t a b r x y h p o = record { at = λ env m u s w n. go w u n }
  where
    go : {env : Env} {m : Message} → Says j.store.messages (P.Pair x y) m → (u : Ty) → Means j.store t.place u → AnsweredMessage k.store env (plain MsgPair) m u (Some (TwoPremises (A.Message x a) (A.Message y r)))
    go {env = env} (says_pair {m = m} {n = n} g f) u c =
        let (v, w, q, d, e) = p.at u c in
        subst (λ u. AnsweredMessage k.store env (plain MsgPair) (pair m n) u (Some (TwoPremises (A.Message x a) (A.Message y r)))) (sym q)
        (of_message env m v ∷ (of_message env n (ty_put m w) ∷ []), fits_pair, asked_next record { id = x; ty = a; is = refl; at = h.store.messages.at x.place m g; means = means_keeps h.store d } (asked_next record { id = y; ty = r; is = refl; at = h.store.messages.at y.place n f; means = o w m e g } asked_none))

pub pair_not : (j : Numbered) (t : TyId) (x y : MsgId) → IsNoPair j.store t → AnswersPart j j MsgPair (P.Pair x y) t None
pair_not j t x y p = record { at = λ env m u s w n ps f. go n f }
  where
    go : {env : Env} {m : Message} {u : Ty} {ps : List Subject} → Means j.store t.place u → Fits (plain MsgPair) (of_message env m u) ps → ⊥
    go n (fits_pair {t = v} {u = w}) = p.at (pair_ty v w) v w n refl

-- a hash of a label
module _ (j : Numbered) (t : TyId) (b : Bool) (told : (u : Ty) → Means j.store t.place u → b ≡ is_un u) (x : MsgId) where
  module _ (k : Numbered) (d : Bool) (labels : (env : Env) (n : Message) → Stands j env → slice_get j.store.messages x.place ≡ Some n → (d ≡ true) ↔ IsLabel [] env n) where
    pub hash_fits : b ≡ true → d ≡ true → AnswersPart j k MsgHash (P.Hash x) t (Some NoPremise)
    hash_fits e f = record { at = λ env m u s w n. go s w u (is_there j t b told e u n) }
      where
        go : {env : Env} {m : Message} → Stands j env → Says j.store.messages (P.Hash x) m → (u : Ty) → u ≡ un → AnsweredMessage k.store env (plain MsgHash) m u (Some NoPremise)
        go {env = env} s (says_hash {m = n} g) u q =
            subst (λ u. AnsweredMessage k.store env (plain MsgHash) (hash n) u (Some NoPremise)) (sym q) ([], fits_hash ((labels env n s g).0 f), asked_none)

    pub hash_not : d ≡ false → AnswersPart j k MsgHash (P.Hash x) t None
    hash_not f = record { at = λ env m u s w n. go s w }
      where
        go : {env : Env} {m : Message} {u : Ty} → Stands j env → Says j.store.messages (P.Hash x) m → (ps : List Subject) → Fits (plain MsgHash) (of_message env m u) ps → ⊥
        go {env = env} s (says_hash {m = n} g) ps (fits_hash l) = true≢false (sym ((labels env n s g).1 l) ∙ f)

-- the parts of a message are numbers of the store
module _ {r s : Store} (e : r ≡ s) (i : ℕ) (below : i < length s.messages) where
  said_there : (p : MsgPart) → ((n : Message) → slice_get r.messages i ≡ Some n → Says r.messages p n) → (m : Message) × Says s.messages p m
  said_there p h =
      let P = λ (s : Store). (n : Message) → slice_get s.messages i ≡ Some n → Says s.messages p n in
      let (m, g) = get_some s.messages i below in
      (m, subst P e h m g)

  pub first_below : {a b : MsgId} → ((n : Message) → slice_get r.messages i ≡ Some n → Says r.messages (P.Pair a b) n) → a.place < length s.messages
  first_below {a = a} {b = b} h = go (said_there (P.Pair a b) h).1
    where
      go : {m : Message} → Says s.messages (P.Pair a b) m → a.place < length s.messages
      go (says_pair {m = m} g f) = slice_get_within s.messages a.place m g

  pub key_below : {a b : MsgId} → ((n : Message) → slice_get r.messages i ≡ Some n → Says r.messages (P.Enc a b) n) → b.place < length s.messages
  key_below {a = a} {b = b} h = go (said_there (P.Enc a b) h).1
    where
      go : {m : Message} → Says s.messages (P.Enc a b) m → b.place < length s.messages
      go (says_enc {n = n} g f) = slice_get_within s.messages b.place n f

  pub hashed_below : {a : MsgId} → ((n : Message) → slice_get r.messages i ≡ Some n → Says r.messages (P.Hash a) n) → a.place < length s.messages
  hashed_below {a = a} h = go (said_there (P.Hash a) h).1
    where
      go : {m : Message} → Says s.messages (P.Hash a) m → a.place < length s.messages
      go (says_hash {m = m} g) = slice_get_within s.messages a.place m g

-- no rule types an index
no_index : {rule : Rule} {env : Env} {i : ℕ} {u : Ty} {ps : List Subject} → Fits (plain rule) (of_message env (bound i) u) ps → ⊥
no_index f = elim f [ ]

pub bound_not : {r : Store} (j : Numbered) (rule : Rule) (t : TyId) (id : MsgId) (i : ℕ) → r ≡ j.store → ((n : Message) → slice_get r.messages id.place ≡ Some n → Says r.messages (P.Bound i) n) → AnswersMessage j j rule id t None
bound_not j rule t id i e h = record { at = λ env m u s g n. go (let P = λ (s : Store). (n : Message) → slice_get s.messages id.place ≡ Some n → Says s.messages (P.Bound i) n in subst P e h m g) }
  where
    go : {env : Env} {m : Message} {u : Ty} → Says j.store.messages (P.Bound i) m → (ps : List Subject) → Fits (plain rule) (of_message env m u) ps → ⊥
    go says_bound ps f = no_index f
