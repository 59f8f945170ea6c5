-- What is new after a call over numbers of the store.
use Rattle.std.proofs.Common.{◌≡◌, ℕ, ◌<◌, Bool, true, false, if◌then◌else◌, List, [], ◌∷◌, ◌++◌, Some, slice_get, length, sym, ap, subst, ◌∙◌, ◌⊎◌, inl, inr, ⊎_elim, Result, Ok, Err, IfOk, OnOk}
use Rattle.std.specs.List.{list_any}
use Rattle.spi_term.specs.Term.{Message, same_message, Effect, Ty, pair_ty, sum_ty, key, nonce}
use Rattle.spi_intern.specs.Table.{AllDiffer, TellsAll, with_value}
use Rattle.spi_intern.specs.Messages.{Says, said, message_added}
use Rattle.spi_intern.specs.Atoms.{SaysAtom, InOrder, IsCutTo, IdsMean}
use Rattle.spi_intern.specs.Kinds.{same_kind}
use Rattle.spi_intern.specs.Typed.{said_kind}
use Rattle.spi_intern.specs.Meaning.{Means, Keeps}
use Rattle.spi_intern.specs.Growing.{Has, AddsMessages, Adds, over_messages, over_types}
use Rattle.spi_intern.specs.declared.messages.MsgId.{MsgId}
use Rattle.spi_intern.specs.declared.messages.MsgPart.{MsgPart}
use Rattle.spi_intern.specs.declared.types.TyId.{TyId}
use Rattle.spi_intern.specs.declared.types.TyNode.TheVariants.{Pair, Sum, Key, Nonce}
use Rattle.spi_intern.specs.declared.atoms.AtomId.{AtomId}
use Rattle.spi_intern.specs.declared.store.Store.{Store}
use Rattle.spi_intern.proofs.Lists.{get_push}
use Rattle.spi_intern.proofs.MessageLaws.{says_said}
use Rattle.spi_intern.proofs.Counting.{cut_means}
use Rattle.spi_intern.proofs.Meanings.{pair_node, sum_node, key_node, nonce_node}
use Rattle.spi_intern.proofs.Adding.{adds_none, types_none, put_node}

-- one message is put
this_added : (ms ns : List Message) (i : ℕ) (m : Message) → ns ≡ message_added ms m → slice_get ns i ≡ Some m → AddsMessages ms ns (λ x. x ≡ m)
this_added ms ns i m grows at = record {
  all = λ x e. record { place = i; at = at ∙ ap Some (sym e) };
  only = λ x h. by (list_any (same_message m) ms) x (subst (λ zs. Has zs x) grows h);
}
  where
    by : (b : Bool) (x : Message) → Has (if b then ms else ms ++ m ∷ []) x → Has ms x ⊎ (x ≡ m)
    by true x h = inl h
    by false x h = ⊎_elim (λ e. inl record { place = h.place; at = e }) (λ e. inr e.1) (get_push ms m h.place x h.at)

pub message_over_adds : {E : Type 0} (s r : Store) (p : MsgPart) → r.types ≡ s.types → (o : Result MsgId E)
    → IfOk o (λ id. slice_get r.messages id.place ≡ Some (said s.messages p)) → OnOk o (r.messages ≡ message_added s.messages (said s.messages p))
    → OnOk o ((n : Message) → Says s.messages p n → Adds s r (over_messages n))
message_over_adds s r p e (Ok id) at grows = λ n says.
    let m : said s.messages p ≡ n = says_said says in
    record { messages = this_added s.messages r.messages id.place n (grows ∙ ap (message_added s.messages) m) (at ∙ ap Some m); types = types_none e }
message_over_adds s r p e (Err x) at grows = tt

pub pair_over_adds : {E : Type 0} (s r : Store) (a b : TyId) → Keeps s r → r.messages ≡ s.messages → (o : Result TyId E)
    → IfOk o (λ id. slice_get r.types id.place ≡ Some (said_kind s.types (Pair a b))) → OnOk o (r.types ≡ with_value same_kind s.types (said_kind s.types (Pair a b)))
    → OnOk o ((t u : Ty) → Means s a.place t → Means s b.place u → Adds s r (over_types (pair_ty t u)))
pair_over_adds s r a b k e (Ok id) at grows = λ t u h g. record { messages = adds_none e; types = put_node id.place k (pair_node h g) at grows }
pair_over_adds s r a b k e (Err x) at grows = tt

pub sum_over_adds : {E : Type 0} (s r : Store) (a b : TyId) → Keeps s r → r.messages ≡ s.messages → (o : Result TyId E)
    → IfOk o (λ id. slice_get r.types id.place ≡ Some (said_kind s.types (Sum a b))) → OnOk o (r.types ≡ with_value same_kind s.types (said_kind s.types (Sum a b)))
    → OnOk o ((t u : Ty) → Means s a.place t → Means s b.place u → Adds s r (over_types (sum_ty t u)))
sum_over_adds s r a b k e (Ok id) at grows = λ t u h g. record { messages = adds_none e; types = put_node id.place k (sum_node h g) at grows }
sum_over_adds s r a b k e (Err x) at grows = tt

pub key_over_adds : {E : Type 0} (s r : Store) (a : TyId) → Keeps s r → r.messages ≡ s.messages → (o : Result TyId E)
    → IfOk o (λ id. slice_get r.types id.place ≡ Some (said_kind s.types (Key a))) → OnOk o (r.types ≡ with_value same_kind s.types (said_kind s.types (Key a)))
    → OnOk o ((t : Ty) → Means s a.place t → Adds s r (over_types (key t)))
key_over_adds s r a k e (Ok id) at grows = λ t h. record { messages = adds_none e; types = put_node id.place k (key_node h) at grows }
key_over_adds s r a k e (Err x) at grows = tt

-- the effect gets a number first, which makes p of s
pub nonce_over_adds : {E : Type 0} (s p r : Store) (ids js : List AtomId) (place : ℕ) → AllDiffer s.messages → IsCutTo ids js → InOrder js
    → p.messages ≡ s.messages → p.types ≡ s.types → slice_get p.effects place ≡ Some js → Keeps p r → r.messages ≡ p.messages → (o : Result TyId E)
    → IfOk o (λ id. slice_get r.types id.place ≡ Some (said_kind p.types (Nonce place))) → OnOk o (r.types ≡ with_value same_kind p.types (said_kind p.types (Nonce place)))
    → OnOk o ((es : Effect) → TellsAll (SaysAtom s.messages) ids es → Adds s r (over_types (nonce es)))
nonce_over_adds s p r ids js place d c o same_messages same_types f k e (Ok id) at grows = λ es t.
    let means : IdsMean p.messages js es = subst (λ ms. IdsMean ms js es) (sym same_messages) (cut_means d t c o) in
    let a = put_node id.place k (nonce_node f means) at grows in
    record {
      messages = adds_none (e ∙ same_messages);
      types = record { all = a.all; only = λ i h. ⊎_elim (λ l. inl (subst (λ zs. i < length zs) same_types l)) inr (a.only i h) };
    }
nonce_over_adds s p r ids js place d c o same_messages same_types f k e (Err x) at grows = tt
