-- Numbers of types are equal just where the types are the same.
use Rattle.std.proofs.Common.{◌≡◌, ℕ, List, Some, slice_get, refl, sym, ap, subst, ◌∙◌, ◌↔◌, Result, Ok, Err, IfOk}
use Rattle.spi_term.specs.Term.{Message, Ty}
use Rattle.spi_term.specs.SameTy.{SameTy, same_un, same_unit, same_pair, same_sum, same_key, same_nonce}
use Rattle.spi_term.proofs.Lists.{some_is}
use Rattle.spi_intern.specs.Table.{AllDiffer}
use Rattle.spi_intern.specs.Kinds.{Kind, pair, sum, key, nonce}
use Rattle.spi_intern.specs.declared.messages.MsgId.{MsgId}
use Rattle.spi_intern.specs.declared.atoms.AtomId.{AtomId}
use Rattle.spi_intern.specs.declared.store.Store.{Store}
use Rattle.spi_intern.specs.Atoms.{IdsMean}
use Rattle.spi_intern.specs.Meaning.{KindMeans, means_un, means_unit, means_pair, means_sum, means_key, means_nonce, Means, NoneTwice}
use Rattle.spi_intern.proofs.Counting.{means_like, means_one}

kind_same : {ms : List Message} {ls : List (List AtomId)} {k : Kind} {t u : Ty} → KindMeans ms ls k t → KindMeans ms ls k u → SameTy t u
kind_same means_un means_un = same_un
kind_same means_unit means_unit = same_unit
kind_same (means_pair a b) (means_pair c d) = same_pair (kind_same a c) (kind_same b d)
kind_same (means_sum a b) (means_sum c d) = same_sum (kind_same a c) (kind_same b d)
kind_same (means_key a) (means_key c) = same_key (kind_same a c)
kind_same {ms} (means_nonce {ids = ids} {es = es} e h) (means_nonce {ids = js} {es = fs} f g) =
    let q : js ≡ ids = some_is (sym f ∙ e) in
    same_nonce (means_like ids es fs h (subst (λ zs. IdsMean ms zs fs) q g))

kind_one : {ms : List Message} {ls : List (List AtomId)} → AllDiffer ms → AllDiffer ls → {t u : Ty} → SameTy t u → {k l : Kind} → KindMeans ms ls k t → KindMeans ms ls l u → k ≡ l
kind_one m d same_un means_un means_un = refl
kind_one m d same_unit means_unit means_unit = refl
kind_one m d (same_pair a b) (means_pair p q) (means_pair r s) = λ i. pair (kind_one m d a p r i) (kind_one m d b q s i)
kind_one m d (same_sum a b) (means_sum p q) (means_sum r s) = λ i. sum (kind_one m d a p r i) (kind_one m d b q s i)
kind_one m d (same_key a) (means_key p) (means_key r) = ap key (kind_one m d a p r)
kind_one m d (same_nonce w) (means_nonce {e = x} {ids = ids} {es = es} e h) (means_nonce {e = y} {ids = js} {es = fs} f g) =
    ap nonce (d.one x y ids e (f ∙ ap Some (sym (means_one m ids js es fs h g w))))

pub types_tell : (s : Store) → NoneTwice s → (i j : ℕ) (t u : Ty) → Means s i t → Means s j u → (i ≡ j) ↔ SameTy t u
types_tell s d i j t u a b = (
  λ e. let q : b.kind ≡ a.kind = some_is (sym b.at ∙ ap (slice_get s.types) (sym e) ∙ a.at) in kind_same a.means (subst (λ k. KindMeans s.messages s.effects k u) q b.means),
  λ w. let q : a.kind ≡ b.kind = kind_one d.messages d.effects w a.means b.means in d.types.one i j a.kind a.at (b.at ∙ ap Some (sym q)),
)

-- and numbers of messages, just where these are equal
pub messages_tell : {ms : List Message} → AllDiffer ms → (i j : ℕ) (m n : Message) → slice_get ms i ≡ Some m → slice_get ms j ≡ Some n → (i ≡ j) ↔ (m ≡ n)
messages_tell {ms} d i j m n a b =
    (λ e. some_is (sym a ∙ ap (slice_get ms) e ∙ b), λ e. d.one i j n (a ∙ ap Some e) b)

pub equal_of : {E : Type 0} (ms : List Message) (m : Message) → AllDiffer ms → (r : Result MsgId E) → IfOk r (λ id. slice_get ms id.place ≡ Some m) → IfOk r (λ id. (j : ℕ) (n : Message) → slice_get ms j ≡ Some n → (id.place ≡ j) ↔ (m ≡ n))
equal_of ms m d (Ok id) at = λ j n b. messages_tell d id.place j m n at b
equal_of ms m d (Err e) at = tt
