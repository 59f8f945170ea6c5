-- Answers of a judge, joined.
use Rattle.std.proofs.Common.{◌≡◌, Bool, true, false, ◌&&◌, ◌||◌, length, sym, ap, subst, ◌∙◌, arith, Result, IfOk, Box, Global}
use Rattle.spi_term.specs.declared.term.Ty as D
use Rattle.spi_term.specs.declared.term.Effect as E
use Rattle.spi_term.specs.declared.term.Ty.TheVariants as T
use Rattle.spi_term.specs.Term.{Ty}
use Rattle.spi_term.specs.Spelling.{Shape}
use Rattle.spi_term.specs.View.{ty}
use Rattle.spi_rules.specs.Environment.{Env}
use Rattle.spi_intern.specs.declared.messages.MsgId.{MsgId}
use Rattle.spi_intern.specs.declared.types.TyId.{TyId}
use Rattle.spi_intern.proofs.Meanings.{means_keeps}
use Rattle.spi_message.specs.Judging.{Numbered, IsKept, IsGivenSmall}
use Rattle.spi_message.specs.Tested.{IsTest, NumbersType}
use Rattle.spi_message.proofs.Fills.{below_keeps}
use Rattle.spi_message.proofs.Tested.{stands_kept}
use Rattle.spi_message.specs.Tests.{is_fresh, good}
use Rattle.spi_infer.specs.Forms.{cast_ok}
use Rattle.spi_infer.specs.Passes.{note_of}
use Rattle.spi_infer.specs.Terms.{IsMessage, IsType}

-- numbers of terms
pub is_type : (j : Numbered) {t : TyId} {u : Ty} → NumbersType j t u → IsType j t
is_type j {u = u} w = record { type = u; means = w }

pub message_later : {j k : Numbered} (m : MsgId) → IsKept j k → IsMessage j m → IsMessage k m
message_later m h l = below_keeps m h.store.messages l

pub type_later : {j k : Numbered} {t : TyId} → IsKept j k → IsType j t → IsType k t
type_later h g = record { type = g.type; means = means_keeps h.store g.means }

pub small_later : {j k : Numbered} {t : TyId} → IsKept j k → IsGivenSmall j.store t.place (length j.types) → IsGivenSmall k.store t.place (length k.types)
small_later h g = record { type = g.type; means = means_keeps h.store g.means; few = omega (arith, ap length h.types, g.few) }

-- what is answered later
pub answered_later : {j k : Numbered} (f : Env → Bool) {b : Bool} → IsKept j k → IsTest k f b → IsTest j f b
answered_later {j} {k} f h t = record { at = λ e s. t.at e (stands_kept {j = j} {k = k} h s) }

-- two answers, the second of which is asked for where the first leaves it open
pub both_hold : {j k : Numbered} (f g : Env → Bool) {a b : Bool} → IsTest j f a → a ≡ true → IsKept j k → IsTest k g b → IsTest j (λ e. f e && g e) b
both_hold {j} {k} f g t h c u = record { at = λ e s. u.at e (stands_kept {j = j} {k = k} c s) ∙ ap (λ a. a && g e) (sym h ∙ t.at e s) }

pub same_holds : {j : Numbered} (f : Env → Bool) (b : Bool) {a : Bool} → IsTest j f a → a ≡ true → IsTest j (λ e. f e && b) b
same_holds f b t h = record { at = λ e s. ap (λ a. a && b) (sym h ∙ t.at e s) }

pub one_fails : {j : Numbered} (f g : Env → Bool) {a : Bool} → IsTest j f a → a ≡ false → IsTest j (λ e. f e && g e) false
one_fails f g t h = record { at = λ e s. ap (λ a. a && g e) (sym h ∙ t.at e s) }

pub other_holds : {j k : Numbered} (f g : Env → Bool) {a b : Bool} → IsTest j f a → a ≡ false → IsKept j k → IsTest k g b → IsTest j (λ e. f e || g e) b
other_holds {j} {k} f g t h c u = record { at = λ e s. u.at e (stands_kept {j = j} {k = k} c s) ∙ ap (λ a. a || g e) (sym h ∙ t.at e s) }

pub one_holds : {j : Numbered} (f g : Env → Bool) {a : Bool} → IsTest j f a → a ≡ true → IsTest j (λ e. f e || g e) true
one_holds f g t h = record { at = λ e s. ap (λ a. a || g e) (sym h ∙ t.at e s) }

-- an answer beside a test that is known
pub tested_where : {j : Numbered} (f : Env → Bool) {a b r : Bool} → a ≡ b → IsTest j (λ e. f e && a) r → IsTest j (λ e. f e && b) r
tested_where {j} f {r = r} q t = subst (λ b. IsTest j (λ e. f e && b) r) q t

pub tested_after : {j : Numbered} (f g : Env → Bool) {a b r : Bool} → a ≡ b → IsTest j (λ e. f e && (g e && a)) r → IsTest j (λ e. f e && (g e && b)) r
tested_after {j} f g {r = r} q t = subst (λ b. IsTest j (λ e. f e && (g e && b)) r) q t

pub tested_or : {j : Numbered} (f g : Env → Bool) {a b r : Bool} → a ≡ b → IsTest j (λ e. f e || (g e && a)) r → IsTest j (λ e. f e || (g e && b)) r
tested_or {j} f g {r = r} q t = subst (λ b. IsTest j (λ e. f e || (g e && b)) r) q t

-- what is asked of a type by its head
pub nonce_cast : (j : Numbered) (t : D.Ty) {es : Box E.Effect Global} {b : Bool} → t ≡ T.Nonce es → IsTest j (λ e. good e (ty t)) b → IsTest j (λ e. cast_ok e (ty t)) b
nonce_cast j t {b = b} q = subst (λ t. IsTest j (λ e. good e (ty t)) b → IsTest j (λ e. cast_ok e (ty t)) b) (sym q) (λ h. record { at = h.at })

pub key_fresh : (j : Numbered) (t : D.Ty) {u : Box D.Ty Global} {b : Bool} → t ≡ T.Key u → IsTest j (λ e. good e (ty t)) b → IsTest j (λ e. is_fresh (ty t) && good e (ty t)) b
key_fresh j t {b = b} q = subst (λ t. IsTest j (λ e. good e (ty t)) b → IsTest j (λ e. is_fresh (ty t) && good e (ty t)) b) (sym q) (λ h. record { at = h.at })

-- an answer about a form that is the same
pub fine_as : {E : Type 0} (j : Numbered) {x y : Shape} → x ≡ y → (r : Result Bool E) → IfOk r (IsTest j (λ e. (note_of e y).fine)) → IfOk r (IsTest j (λ e. (note_of e x).fine))
fine_as j q r = subst (λ x. IfOk r (IsTest j (λ e. (note_of e x).fine))) (sym q)
