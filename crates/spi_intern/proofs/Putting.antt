-- What is put over numbers that were given.
use Rattle.std.proofs.Common.{◌≡◌, ℕ, List, Some, slice_get, ap, ◌∙◌, Result, Ok, Err, IfOk}
use Rattle.spi_term.specs.Term.{Message, Effect, Ty, pair_ty, sum_ty, key, nonce}
use Rattle.spi_intern.specs.Table.{AllDiffer, TellsAll}
use Rattle.spi_intern.specs.Messages.{Says, said}
use Rattle.spi_intern.specs.Atoms.{SaysAtom, InOrder, IsCutTo}
use Rattle.spi_intern.specs.Typed.{said_kind}
use Rattle.spi_intern.specs.Meaning.{Means, Keeps}
use Rattle.spi_intern.specs.declared.messages.MsgId.{MsgId}
use Rattle.spi_intern.specs.declared.messages.MsgPart.{MsgPart}
use Rattle.spi_intern.specs.declared.types.TyId.{TyId}
use Rattle.spi_intern.specs.declared.types.TyNode.TheVariants.{Pair, Sum, Key, Nonce}
use Rattle.spi_intern.specs.declared.atoms.AtomId.{AtomId}
use Rattle.spi_intern.specs.declared.store.Store.{Store}
use Rattle.spi_intern.proofs.MessageLaws.{says_said}
use Rattle.spi_intern.proofs.Meanings.{pair_node, sum_node, key_node, nonce_node, made, ids_keep}
use Rattle.spi_intern.proofs.Counting.{cut_means}

pub put_message : {E : Type 0} (ms ns : List Message) (p : MsgPart) (r : Result MsgId E) → IfOk r (λ id. slice_get ns id.place ≡ Some (said ms p)) → IfOk r (λ id. (n : Message) → Says ms p n → slice_get ns id.place ≡ Some n)
put_message ms ns p (Ok id) at = λ n s. at ∙ ap Some (says_said s)
put_message ms ns p (Err e) at = tt

pub put_pair_ty : {E : Type 0} (s q : Store) (a b : TyId) → Keeps s q → (r : Result TyId E) → IfOk r (λ id. slice_get q.types id.place ≡ Some (said_kind s.types (Pair a b))) → IfOk r (λ id. (t u : Ty) → Means s a.place t → Means s b.place u → Means q id.place (pair_ty t u))
put_pair_ty s q a b k (Ok id) at = λ t u h g. made k (pair_node h g) at
put_pair_ty s q a b k (Err e) at = tt

pub put_sum_ty : {E : Type 0} (s q : Store) (a b : TyId) → Keeps s q → (r : Result TyId E) → IfOk r (λ id. slice_get q.types id.place ≡ Some (said_kind s.types (Sum a b))) → IfOk r (λ id. (t u : Ty) → Means s a.place t → Means s b.place u → Means q id.place (sum_ty t u))
put_sum_ty s q a b k (Ok id) at = λ t u h g. made k (sum_node h g) at
put_sum_ty s q a b k (Err e) at = tt

pub put_key_ty : {E : Type 0} (s q : Store) (a : TyId) → Keeps s q → (r : Result TyId E) → IfOk r (λ id. slice_get q.types id.place ≡ Some (said_kind s.types (Key a))) → IfOk r (λ id. (t : Ty) → Means s a.place t → Means q id.place (key t))
put_key_ty s q a k (Ok id) at = λ t h. made k (key_node h) at
put_key_ty s q a k (Err e) at = tt

pub put_nonce_ty : {E : Type 0} (s p q : Store) (ids js : List AtomId) (place : ℕ) → AllDiffer s.messages → IsCutTo ids js → InOrder js → Keeps s p → slice_get p.effects place ≡ Some js → Keeps p q → (r : Result TyId E) → IfOk r (λ id. slice_get q.types id.place ≡ Some (said_kind p.types (Nonce place))) → IfOk r (λ id. (es : Effect) → TellsAll (SaysAtom s.messages) ids es → Means q id.place (nonce es))
put_nonce_ty s p q ids js place d c o l f k (Ok id) at = λ es t. made k (nonce_node f (ids_keep l.messages (cut_means d t c o))) at
put_nonce_ty s p q ids js place d c o l f k (Err e) at = tt
