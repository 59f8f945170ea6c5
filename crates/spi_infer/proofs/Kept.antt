-- What is kept of the nodes stays as the store and the keys grow.
use Rattle.std.proofs.Common.{◌≡◌, ℕ, List, [], ◌∷◌, ◌++◌, Option, Some, None, refl, sym, subst, Result, Ok, Err, IfOk, Box, Global}
use Rattle.std.specs.Prelude.{IfSome, IfNone, slice_get, ⊤}
use Rattle.spi_term.specs.declared.term.Msg.{Msg}
use Rattle.spi_term.specs.declared.term.Effect as D
use Rattle.spi_term.specs.declared.term.Ty.{Ty}
use Rattle.spi_term.specs.declared.term.Ty.TheVariants as T
use Rattle.spi_term.specs.declared.term.Form.{Form}
use Rattle.spi_term.specs.declared.term.Form.TheVariants as F
use Rattle.spi_term.specs.View.{shape_of_form, ty}
use Rattle.spi_term.specs.Term.{Message, name, Effect, nonce, Prefix, Recvs, Serves, Splits, Selects, Decrypts, Checks, Begins, Ends, EndManys, Casts, Freshes}
use Rattle.spi_term.specs.Spelling.{Shape, leaf_at, prefix_at, fork_at}
use Rattle.spi_rules.specs.Environment.{Env}
use Rattle.spi_intern.specs.Meaning.{Means, Keeps}
use Rattle.spi_intern.specs.declared.store.Store.{Store}
use Rattle.spi_intern.specs.declared.messages.MsgId.{MsgId}
use Rattle.spi_intern.specs.declared.types.TyId.{TyId}
use Rattle.spi_intern.proofs.Meanings.{means_keeps}
use Rattle.spi_message.specs.Judging.{Numbered, Stands}
use Rattle.spi_message.specs.Tests.{nonce_of}
use Rattle.spi_count.specs.declared.keys.Keys.{Keys}
use Rattle.spi_infer.specs.declared.own.Own.{Own}
use Rattle.spi_infer.specs.declared.own.Own.TheVariants.{Label}
use Rattle.spi_infer.specs.declared.own.OwnNote.{OwnNote}
use Rattle.spi_message.specs.Forms.{cast_effect_of}
use Rattle.spi_infer.specs.Own.{PaidFits, FormFits, IsOwnOf, FormNotedAs, AreFormsNoted, noted_none, noted_next}
use Rattle.spi_count.specs.Keeping.{with_keys, GrowsTo, HaveKeys}
use Rattle.spi_infer.specs.Passes.{Note, note_of}
use Rattle.spi_infer.specs.Walking.{FitsIn}
use Rattle.spi_count.proofs.Kept.{key_keeps, have_keys_keep, have_none}

-- what is kept of a node
paid_keeps : {s r : Store} (t : Option TyId) (paid : Option Effect) → Keeps s r → PaidFits s t paid → PaidFits r t paid
paid_keeps None None g h = tt
paid_keeps None (Some es) g h = absurd h
paid_keeps (Some t) None g h = absurd h
paid_keeps (Some t) (Some es) g h = means_keeps g h

module _ {s r : Store} {ks ls : Keys} (g : GrowsTo s ks r ls) where
  form_keeps : (k : ℕ) (p : Prefix) (paid : Option Effect) (own : Own) → FormFits s (with_keys s ks) k p paid own → FormFits r (with_keys r ls) k p paid own
  form_keeps k (Checks m n) paid own h = (h.0, h.1, h.2, key_keeps {s = s} {r = r} {ks = ks} {ls = ls} g h.3, paid_keeps h.1 paid g.store h.4)
  form_keeps k (Begins m) paid own h = (h.0, h.1, g.store.messages.at h.0.place m h.2)
  form_keeps k (Ends m) paid own h = (h.0, h.1, key_keeps {s = s} {r = r} {ks = ks} {ls = ls} g h.2)
  form_keeps k (EndManys m) paid own h = (h.0, h.1, key_keeps {s = s} {r = r} {ks = ks} {ls = ls} g h.2)
  form_keeps k (Casts m t) paid own h = (h.0, h.1, means_keeps g.store h.2, have_keys_keep {s = s} {r = r} {ks = ks} {ls = ls} (cast_effect_of t) g h.3)
  form_keeps k (Freshes t) paid own h = (h.0, h.1, g.store.messages.at h.0.place (name k) h.2)
  form_keeps k _ paid own h = tt

  fits_keep : (x : Shape) (paid : Option Effect) (own : Own) → IsOwnOf s (with_keys s ks) x paid own → IsOwnOf r (with_keys r ls) x paid own
  fits_keep (leaf_at k l) paid own h = tt
  fits_keep (prefix_at k p b) paid own h = form_keeps k p paid own h
  fits_keep (fork_at k f a b) paid own h = tt

  pub noted_keeps : (x : Shape) (n : Note) (o : OwnNote) → FormNotedAs s (with_keys s ks) x n o → FormNotedAs r (with_keys r ls) x n o
  noted_keeps x n o h = (h.0, λ f. fits_keep x n.paid o.own (h.1 f))

  pub are_noted_keep : {ss : List Shape} {ns : List Note} {os : List OwnNote} → AreFormsNoted s (with_keys s ks) ss ns os → AreFormsNoted r (with_keys r ls) ss ns os
  are_noted_keep noted_none = noted_none
  are_noted_keep (noted_next {x = x} {n = n} {o = o} h t) = noted_next (noted_keeps x n o h) (are_noted_keep t)

pub noted_push : {s : Store} {At : ℕ → Message → Type 0} (x : Shape) (n : Note) (o : OwnNote) {ss : List Shape} {ns : List Note} {os : List OwnNote} → AreFormsNoted s At ss ns os → FormNotedAs s At x n o → AreFormsNoted s At (ss ++ x ∷ []) (ns ++ n ∷ []) (os ++ o ∷ [])
noted_push x n o noted_none h = noted_next h noted_none
noted_push x n o (noted_next g t) h = noted_next g (noted_push x n o t h)

-- what a check pays for
pub paid_fits : {s : Store} (o : Option TyId) (e : Env) (n : Message) (P : TyId → Type 0) (Q : Type 0) → IfSome o P → IfNone o Q → ((t : TyId) → P t → (es : Effect) × (nonce_of e n ≡ Some es) × Means s t.place (nonce es)) → (Q → nonce_of e n ≡ None) → PaidFits s o (nonce_of e n)
paid_fits {s} (Some t) e n P Q h g f z = let w = f t h in subst (PaidFits s (Some t)) (sym w.1) w.2
paid_fits {s} None e n P Q h g f z = subst (PaidFits s None) (sym (z g)) tt

-- a cast adds atoms where its type is a nonce's
pub none_cast : (s : Store) (ks : Keys) (t : Ty) → ((e : Box D.Effect Global) → t ≡ T.Nonce e → ⊥) → HaveKeys s ks (cast_effect_of (ty t))
none_cast s ks (T.Nonce e) h = absurd (h e refl)
none_cast s ks _ h = have_none s ks

-- forms of which nothing is kept
abbrev pub IsQuietForm : Prefix → Type 0
IsQuietForm (Recvs m t) = ⊤
IsQuietForm (Serves m t) = ⊤
IsQuietForm (Splits m t u) = ⊤
IsQuietForm (Selects m t n u) = ⊤
IsQuietForm (Decrypts m t n) = ⊤
IsQuietForm _ = ⊥

abbrev pub IsQuietShape : Shape → Type 0
IsQuietShape (leaf_at k l) = ⊤
IsQuietShape (prefix_at k p b) = IsQuietForm p
IsQuietShape (fork_at k f a r) = ⊤

-- a form that is none of the six that keep something
pub quiet_rest : (k : ℕ) (f : Form)
    → ((m n : Msg) (b : ℕ) → f ≡ F.Check m n b → ⊥) → ((m : Msg) (b : ℕ) → f ≡ F.Begin m b → ⊥) → ((m : Msg) (b : ℕ) → f ≡ F.End m b → ⊥)
    → ((m : Msg) (b : ℕ) → f ≡ F.EndMany m b → ⊥) → ((m : Msg) (t : Ty) (b : ℕ) → f ≡ F.Cast m t b → ⊥) → ((t : Ty) (b : ℕ) → f ≡ F.Fresh t b → ⊥)
    → IsQuietShape (shape_of_form k f)
quiet_rest k (F.Check m n b) h i j l o p = absurd (h m n b refl)
quiet_rest k (F.Begin m b) h i j l o p = absurd (i m b refl)
quiet_rest k (F.End m b) h i j l o p = absurd (j m b refl)
quiet_rest k (F.EndMany m b) h i j l o p = absurd (l m b refl)
quiet_rest k (F.Cast m t b) h i j l o p = absurd (o m t b refl)
quiet_rest k (F.Fresh t b) h i j l o p = absurd (p t b refl)
quiet_rest k _ h i j l o p = tt

quiet_form : (s : Store) (At : ℕ → Message → Type 0) (k : ℕ) (p : Prefix) (paid : Option Effect) (own : Own) → IsQuietForm p → FormFits s At k p paid own
quiet_form s At k (Recvs m t) paid own h = tt
quiet_form s At k (Serves m t) paid own h = tt
quiet_form s At k (Splits m t u) paid own h = tt
quiet_form s At k (Selects m t n u) paid own h = tt
quiet_form s At k (Decrypts m t n) paid own h = tt
quiet_form s At k _ paid own h = absurd h

quiet_shape : (s : Store) (At : ℕ → Message → Type 0) (x : Shape) (paid : Option Effect) (own : Own) → IsQuietShape x → IsOwnOf s At x paid own
quiet_shape s At (leaf_at k l) paid own h = tt
quiet_shape s At (prefix_at k p b) paid own h = quiet_form s At k p paid own h
quiet_shape s At (fork_at k f a r) paid own h = tt

pub quiet_fits : (j k : Numbered) (ks : Keys) (x : Shape) (own : Own) → IsQuietShape x → FitsIn j k ks x own
quiet_fits j k ks x own h = record { at = λ e s. quiet_shape k.store (with_keys k.store ks) x (note_of e x).paid own h }

-- the others
pub fits_at : {E : Type 0} (j k : Numbered) (ks : Keys) (x : Shape) {y : Shape} → x ≡ y → (r : Result Own E) {P : Own → Type 0} → IfOk r P → ((own : Own) → P own → (e : Env) → Stands j e → IsOwnOf k.store (with_keys k.store ks) y (note_of e y).paid own) → IfOk r (FitsIn j k ks x)
fits_at j k ks x {y = y} q (Ok own) h f = subst (λ x. FitsIn j k ks x own) (sym q) (record { at = f own h })
fits_at j k ks x q (Err e) h f = tt

pub fits_as : (j k : Numbered) (ks : Keys) {x y : Shape} (own : Own) → x ≡ y → ((e : Env) → Stands j e → IsOwnOf k.store (with_keys k.store ks) y (note_of e y).paid own) → FitsIn j k ks x own
fits_as j k ks own q f = subst (λ x. FitsIn j k ks x own) (sym q) (record { at = f })

-- the label of a begin
pub begin_fits : (j k : Numbered) (ks : Keys) (x : Shape) {n b : ℕ} {m : Message} (id : MsgId) → x ≡ prefix_at n (Begins m) b → slice_get k.store.messages id.place ≡ Some m → FitsIn j k ks x (Label id)
begin_fits j k ks x id q h = subst (λ x. FitsIn j k ks x (Label id)) (sym q) (record { at = λ e s. (id, refl, h) })
