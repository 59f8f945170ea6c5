-- What is kept of casts and of checks.
use Rattle.std.proofs.Common.{◌≡◌, ℕ, Option, refl, sym, ap, subst}
use Rattle.spi_term.specs.Term.{Message, Effect, Ty, nonce}
use Rattle.spi_rules.specs.Environment.{Env}
use Rattle.spi_rules.specs.declared.rule.Rule.{Rule}
use Rattle.spi_rules.specs.declared.rule.Rule.TheVariants.{ProcCheck, ProcCast}
use Rattle.spi_intern.specs.Meaning.{Means, Keeps}
use Rattle.spi_intern.specs.declared.store.Store.{Store}
use Rattle.spi_intern.specs.declared.messages.MsgId.{MsgId}
use Rattle.spi_intern.specs.declared.types.TyId.{TyId}
use Rattle.spi_intern.proofs.Meanings.{means_keeps}
use Rattle.spi_message.specs.Judging.{Numbered, Stands}
use Rattle.spi_message.specs.Tests.{nonce_of}
use Rattle.spi_count.specs.declared.keys.Keys.{Keys}
use Rattle.spi_audit.specs.declared.notes.Note.{Note}
use Rattle.spi_audit.specs.declared.notes.Note.TheVariants as N
use Rattle.spi_count.specs.Keeping.{with_keys, HaveKeys}
use Rattle.spi_audit.specs.Changes.{Change, same_effect, one_left, check_change, cast_change}
use Rattle.spi_audit.specs.Notes.{NotedAs, noted_one, noted_same, noted_cast, noted_check}
use Rattle.spi_message.specs.Tested.{IsNonceAt, IsNoNonce}

pub noted_as : (s : Store) (keys : Keys) (o : Note) {c d : Change} → c ≡ d → NotedAs s keys d o → NotedAs s keys c o
noted_as s keys o q h = subst (λ c. NotedAs s keys c o) (sym q) h

-- casts
pub one_noted : (s : Store) (keys : Keys) (k : ℕ) {c : Change} → c ≡ one_left k → NotedAs s keys c (N.LeaveOne k)
one_noted s keys k q = noted_as s keys (N.LeaveOne k) q noted_one

pub cast_noted : (s : Store) (keys : Keys) (k : ℕ) (t : TyId) (u : Ty) (fs : Effect) → u ≡ nonce fs → Means s t.place u → HaveKeys s keys fs → NotedAs s keys (cast_change ProcCast k u) (N.Cast k t)
cast_noted s keys k t u fs q m h = noted_as s keys (N.Cast k t) (ap (cast_change ProcCast k) q) (noted_cast (subst (Means s t.place) q m) h)

pub other_cast : (r : Rule) (k : ℕ) (u : Ty) → (r ≡ ProcCast → ⊥) → cast_change r k u ≡ one_left k
other_cast ProcCast k u h = absurd (h refl)
other_cast _ k u h = refl

-- checks
pub no_check : (j : Numbered) (s : Store) (keys : Keys) (m n : Message) → IsNoNonce j n → (e : Env) (k : ℕ) → Stands j e → NotedAs s keys (check_change ProcCheck k m (nonce_of e n)) N.Same
no_check j s keys m n h e k w = noted_as s keys N.Same (ap (check_change ProcCheck k m) (h.at e w)) noted_same

pub check_noted : (j : Numbered) (s : Store) (keys : Keys) (m n : Message) (id : MsgId) (t : TyId) → Keeps j.store s → with_keys s keys id.place m → IsNonceAt j n t → (e : Env) (k : ℕ) → Stands j e → NotedAs s keys (check_change ProcCheck k m (nonce_of e n)) (N.Check id t)
check_noted j s keys m n id t g a h e k w =
    let (fs, q, v) = h.at e w in
    noted_as s keys (N.Check id t) (ap (check_change ProcCheck k m) q) (noted_check a (means_keeps g v))

other_check : (r : Rule) (k : ℕ) (m : Message) (o : Option Effect) → (r ≡ ProcCheck → ⊥) → check_change r k m o ≡ same_effect k
other_check ProcCheck k m o h = absurd (h refl)
other_check _ k m o h = refl

pub same_noted : (j : Numbered) (s : Store) (keys : Keys) (r : Rule) (m n : Message) → (r ≡ ProcCheck → ⊥) → (e : Env) (k : ℕ) → Stands j e → NotedAs s keys (check_change r k m (nonce_of e n)) N.Same
same_noted j s keys r m n h e k w = noted_as s keys N.Same (other_check r k m (nonce_of e n) h) noted_same
