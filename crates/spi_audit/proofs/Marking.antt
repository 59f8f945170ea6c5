-- Names of messages that are marked.
use Rattle.std.proofs.Common.{◌≡◌, refl, sym, ap, ◌∙◌, ℕ, ◌<◌, Bool, true, false, true≢false, List, Some, ⊎_elim, arith, max}
use Rattle.std.specs.Prelude.{if◌then◌else◌, slice_get, eqb}
use Rattle.std.specs.BTreeMap.{BTreeMap}
use Rattle.std.proofs.lemmas.Bool.{eqb-true, eqb-false, or_cases}
use Rattle.std.proofs.Common.{eq-eqb}
use Rattle.spi_term.specs.Term.{Message, bound, name, unit, pair}
use Rattle.spi_effect.specs.Made.{is_free}
use Rattle.spi_effect.proofs.Made.{or_false}
use Rattle.spi_intern.specs.declared.messages.MsgId.{MsgId}
use Rattle.spi_intern.specs.declared.messages.MsgPart.TheVariants as P
use Rattle.spi_intern.specs.Messages.{Says, says_bound, says_name, says_unit, says_pair, says_left, says_right, says_enc, says_hash}
use Rattle.spi_count.specs.Counts.{count_of, Sets}
use Rattle.spi_audit.specs.Accounts.{Marks}

marks_none : (old : BTreeMap ℕ ℕ) (m : Message) → ((y : ℕ) → is_free y m ≡ false) → Marks old old m
marks_none old m h = (λ y p. p, λ y f. absurd (true≢false (sym f ∙ h y)), λ y z f. z)

pub marks_bound : {ms : List Message} {i : ℕ} {m : Message} (old : BTreeMap ℕ ℕ) → Says ms (P.Bound i) m → Marks old old m
marks_bound old (says_bound {i}) = marks_none old (bound i) (λ y. refl)

pub marks_unit : {ms : List Message} {m : Message} (old : BTreeMap ℕ ℕ) → Says ms P.Unit m → Marks old old m
marks_unit old says_unit = marks_none old unit (λ y. refl)

name_marked : (old new : BTreeMap ℕ ℕ) (x : ℕ) → Sets old new x (max (count_of old x) 1) → Marks old new (name x)
name_marked old new x s = (λ y p. kept y (eqb x y) refl p, λ y f. there y (eqb-true y x f), λ y z f. none y z (eqb x y) refl f)
  where
    at : (y : ℕ) (b : Bool) → eqb x y ≡ b → count_of new y ≡ (if b then max (count_of old x) 1 else count_of old y)
    at y b e = s y ∙ ap (λ b. if b then max (count_of old x) 1 else count_of old y) e

    kept : (y : ℕ) (b : Bool) → eqb x y ≡ b → 0 < count_of old y → 0 < count_of new y
    kept y true e p = let c = at y true e in omega (arith, c)
    kept y false e p = let c = at y false e in omega (arith, c, p)

    there : (y : ℕ) → y ≡ x → 0 < count_of new y
    there y e = let c = at y true (eq-eqb x y (sym e)) in omega (arith, c)

    none : (y : ℕ) → count_of old y ≡ 0 → (b : Bool) → eqb x y ≡ b → eqb y x ≡ false → count_of new y ≡ 0
    none y z true e f = absurd (eqb-false y x f (sym (eqb-true x y e)))
    none y z false e f = at y false e ∙ z

pub marks_name : {ms : List Message} {x : ℕ} {m : Message} (old new : BTreeMap ℕ ℕ) → Sets old new x (max (count_of old x) 1) → Says ms (P.Name x) m → Marks old new m
marks_name old new s (says_name {x}) = name_marked old new x s

two_marked : (a b c : BTreeMap ℕ ℕ) (m n : Message) → Marks a b m → Marks b c n → Marks a c (pair m n)
two_marked a b c m n h k = (
  λ y p. k.0 y (h.0 y p),
  λ y f. ⊎_elim (λ e. k.0 y (h.1 y e)) (λ e. k.1 y e) (or_cases (is_free y m) (is_free y n) f),
  λ y z f. let r = or_false (is_free y m) (is_free y n) f in k.2 y (h.2 y z r.0) r.1,
)

pub marks_pair : {ms : List Message} {i j : MsgId} {m : Message} (a b c : BTreeMap ℕ ℕ) → Says ms (P.Pair i j) m → ((u : Message) → slice_get ms i.place ≡ Some u → Marks a b u) → ((u : Message) → slice_get ms j.place ≡ Some u → Marks b c u) → Marks a c m
marks_pair a b c (says_pair {m = u} {n = v} e f) h k = two_marked a b c u v (h u e) (k v f)

pub marks_enc : {ms : List Message} {i j : MsgId} {m : Message} (a b c : BTreeMap ℕ ℕ) → Says ms (P.Enc i j) m → ((u : Message) → slice_get ms i.place ≡ Some u → Marks a b u) → ((u : Message) → slice_get ms j.place ≡ Some u → Marks b c u) → Marks a c m
marks_enc a b c (says_enc {m = u} {n = v} e f) h k = two_marked a b c u v (h u e) (k v f)

pub marks_left : {ms : List Message} {i : MsgId} {m : Message} (a b : BTreeMap ℕ ℕ) → Says ms (P.Inl i) m → ((u : Message) → slice_get ms i.place ≡ Some u → Marks a b u) → Marks a b m
marks_left a b (says_left {m = u} e) h = h u e

pub marks_right : {ms : List Message} {i : MsgId} {m : Message} (a b : BTreeMap ℕ ℕ) → Says ms (P.Inr i) m → ((u : Message) → slice_get ms i.place ≡ Some u → Marks a b u) → Marks a b m
marks_right a b (says_right {m = u} e) h = h u e

pub marks_hash : {ms : List Message} {i : MsgId} {m : Message} (a b : BTreeMap ℕ ℕ) → Says ms (P.Hash i) m → ((u : Message) → slice_get ms i.place ≡ Some u → Marks a b u) → Marks a b m
marks_hash a b (says_hash {m = u} e) h = h u e
