-- What is told by the names in scope alone is so.
use Rattle.std.proofs.Common.{◌≡◌, ℕ, zero, suc, ◌≤◌, Bool, true, List, [], ◌∷◌, ◌++◌, map, Some, slice_get, length, if◌then◌else◌, refl, sym, ap, subst, ◌∙◌, arith, true≢false, ⊎_elim, Ok}
use Rattle.std.specs.Prelude.{⊤}
use Rattle.std.proofs.lemmas.Bool.{lt-ltb, ltb-true, ne_eqb, cases_lt}
use Rattle.spi_term.specs.Term.{Message, bound, name, unit, pair, in_left, in_right, enc, hash, Atom, ends, checks, many, Effect, Ty, un, unit_ty, pair_ty, sum_ty, key, nonce}
use Rattle.spi_term.specs.Lists.{In, in_first, in_later}
use Rattle.spi_term.specs.Spelling.{ty_nodes}
use Rattle.spi_term.specs.Substitution.{put, atom_map, effect_map, ty_map, ty_put}
use Rattle.spi_term.proofs.Terms.{put_here}
use Rattle.spi_term.proofs.Counting.{and_true, both_true, same_sym}
use Rattle.spi_term.proofs.Lists.{length_more}
use Rattle.spi_rules.specs.Environment.{Env}
use Rattle.spi_intern.specs.Meaning.{Means}
use Rattle.spi_intern.specs.Messages.{message_at}
use Rattle.spi_intern.specs.declared.messages.MsgId.{MsgId}
use Rattle.spi_intern.specs.declared.types.TyId.{TyId}
use Rattle.spi_intern.specs.declared.atoms.AtomId.{AtomId}
use Rattle.spi_intern.specs.declared.store.Store.{Store}
use Rattle.spi_intern.proofs.Sized.{at_message}
use Rattle.spi_message.specs.declared.answers.Asked.TheVariants.{Typed, Labelled, Good}
use Rattle.spi_message.specs.Filling.{atom_at}
use Rattle.spi_message.specs.Answered.{TellsTest}
use Rattle.spi_message.specs.Asking.{IsTyped}
use Rattle.spi_message.specs.Tests.{labelled, good_atom, good_effect, good_by, good}
use Rattle.spi_message.specs.Plain.{plain, plain_atom, ArePlain, IsPlain, MeansPlain, HavePlain}
use Rattle.spi_message.proofs.Deciding.{labelled_true, good_true, nodes_put_ty}
use Rattle.spi_message.proofs.FillsTypes.{TwoTys, OneTy, NonceTy}
use Rattle.spi_message.proofs.Added.{atom_same_in}
use Rattle.spi_message.proofs.Standing.{stand_length}
use Rattle.spi_message.proofs.Judges.{typed_in}

-- labels
plain_labelled : (e : Env) (m : Message) → plain (length e) 0 m ≡ true → labelled m e ≡ true
plain_labelled e (bound i) h = let l = ltb-true i 0 h in absurd (omega arith)
plain_labelled e (name x) h = h
plain_labelled e unit h = refl
plain_labelled e (pair m n) h = let w = and_true (plain (length e) 0 m) (plain (length e) 0 n) h in both_true (plain_labelled e m w.0) (plain_labelled e n w.1)
plain_labelled e (in_left m) h = plain_labelled e m h
plain_labelled e (in_right m) h = plain_labelled e m h
plain_labelled e (enc m n) h = absurd (true≢false (sym h))
plain_labelled e (hash m) h = plain_labelled e m h

-- the next name stands for the outermost index
plain_put : (k d : ℕ) (m : Message) → plain k (suc d) m ≡ true → plain (suc k) d (put (name k) d m) ≡ true
plain_put k d (bound i) h =
    ⊎_elim
    (λ l. ap (λ b. plain (suc k) d (if b then name k else bound i)) (ne_eqb i d (λ e. omega arith)) ∙ lt-ltb i d l)
    (λ g. let l = ltb-true i (suc d) h in let e : i ≡ d = omega arith in ap (λ j. plain (suc k) d (put (name k) d (bound j))) e ∙ ap (plain (suc k) d) (put_here (name k) d) ∙ lt-ltb k (suc k) (omega arith))
    (cases_lt i d)
plain_put k d (name x) h = let l = ltb-true x k h in lt-ltb x (suc k) (omega arith)
plain_put k d unit h = refl
plain_put k d (pair m n) h = let w = and_true (plain k (suc d) m) (plain k (suc d) n) h in both_true (plain_put k d m w.0) (plain_put k d n w.1)
plain_put k d (in_left m) h = plain_put k d m h
plain_put k d (in_right m) h = plain_put k d m h
plain_put k d (enc m n) h = absurd (true≢false (sym h))
plain_put k d (hash m) h = plain_put k d m h

plain_put_atom : (k d : ℕ) (a : Atom) → plain_atom k (suc d) a ≡ true → plain_atom (suc k) d (atom_map (put (name k) d) a) ≡ true
plain_put_atom k d (ends m) h = plain_put k d m h
plain_put_atom k d (checks m) h = absurd (true≢false (sym h))
plain_put_atom k d (many m) h = plain_put k d m h

plain_rest : {k d : ℕ} {a : Atom} {es : Effect} → ArePlain k d (a ∷ es) → ArePlain k d es
plain_rest h = record { each = λ b i. h.each b (in_later i) }

plain_first : {k d : ℕ} {a : Atom} {es : Effect} → plain_atom k d a ≡ true → ArePlain k d es → ArePlain k d (a ∷ es)
plain_first {k} {d} {a} {es} f g = record { each = λ b i. by b i }
  where
    by : (b : Atom) → In b (a ∷ es) → plain_atom k d b ≡ true
    by _ in_first = f
    by b (in_later i) = g.each b i

plain_none : {k d : ℕ} → ArePlain k d []
plain_none = record { each = λ a i. elim i [ ] }

plain_put_effect : (k d : ℕ) (es : Effect) → ArePlain k (suc d) es → ArePlain (suc k) d (effect_map (put (name k) d) es)
plain_put_effect k d [] h = plain_none
plain_put_effect k d (a ∷ es) h = plain_first (plain_put_atom k d a (h.each a in_first)) (plain_put_effect k d es (plain_rest h))

plain_put_ty : (k d : ℕ) (t : Ty) → IsPlain k (suc d) t → IsPlain (suc k) d (ty_map (put (name k)) d t)
plain_put_ty k d un h = tt
plain_put_ty k d unit_ty h = tt
plain_put_ty k d (pair_ty t u) h = (plain_put_ty k d t h.0, plain_put_ty k (suc d) u h.1)
plain_put_ty k d (sum_ty t u) h = (plain_put_ty k d t h.0, plain_put_ty k d u h.1)
plain_put_ty k d (key t) h = plain_put_ty k d t h
plain_put_ty k d (nonce es) h = plain_put_effect k d es h

-- good types
plain_good_atom : (e : Env) (a : Atom) → plain_atom (length e) 0 a ≡ true → good_atom a e ≡ true
plain_good_atom e (ends m) h = plain_labelled e m h
plain_good_atom e (checks m) h = absurd (true≢false (sym h))
plain_good_atom e (many m) h = plain_labelled e m h

plain_good_effect : (e : Env) (es : Effect) → ArePlain (length e) 0 es → good_effect es e ≡ true
plain_good_effect e [] h = refl
plain_good_effect e (a ∷ es) h = both_true (plain_good_atom e a (h.each a in_first)) (plain_good_effect e es (plain_rest h))

some_nodes : (t : Ty) → 1 ≤ ty_nodes t
some_nodes un = omega arith
some_nodes unit_ty = omega arith
some_nodes (pair_ty t u) = omega arith
some_nodes (sum_ty t u) = omega arith
some_nodes (key t) = omega arith
some_nodes (nonce es) = omega arith

plain_good_by : (n : ℕ) (e : Env) (t : Ty) → ty_nodes t ≤ n → IsPlain (length e) 0 t → good_by n e t ≡ true
plain_good_by zero e t l h = absurd (omega (arith, some_nodes t))
plain_good_by (suc n) e un l h = refl
plain_good_by (suc n) e unit_ty l h = refl
plain_good_by (suc n) e (pair_ty t u) l h =
    both_true (plain_good_by n e t (omega arith) h.0)
    (plain_good_by n (e ++ t ∷ []) (ty_put (name (length e)) u) (omega (arith, nodes_put_ty u 0 (length e)))
    (subst (λ j. IsPlain j 0 (ty_put (name (length e)) u)) (sym (length_more e t)) (plain_put_ty (length e) 0 u h.1)))
plain_good_by (suc n) e (sum_ty t u) l h = both_true (plain_good_by n e t (omega arith) h.0) (plain_good_by n e u (omega arith) h.1)
plain_good_by (suc n) e (key t) l h = plain_good_by n e t (omega arith) h
plain_good_by (suc n) e (nonce es) l h = plain_good_effect e es h

-- what a number means
pub un_plain : {s : Store} {k d : ℕ} {t : TyId} → ((u : Ty) → Means s t.place u → u ≡ un) → MeansPlain s k d t
un_plain {k = k} {d = d} f = record { at = λ u m. subst (IsPlain k d) (sym (f u m)) tt }

pub unit_plain : {s : Store} {k d : ℕ} {t : TyId} → ((u : Ty) → Means s t.place u → u ≡ unit_ty) → MeansPlain s k d t
unit_plain {k = k} {d = d} f = record { at = λ u m. subst (IsPlain k d) (sym (f u m)) tt }

pub pair_plain : {s : Store} {k d e : ℕ} {t a b : TyId} → TwoTys s t a b pair_ty → e ≡ suc d → MeansPlain s k d a → MeansPlain s k e b → MeansPlain s k d t
pair_plain {k = k} {d = d} w q f g = record {
  at = λ u m. let z = w.at u m in subst (IsPlain k d) (sym z.2) (f.at z.0 z.3, subst (λ j. IsPlain k j z.1) q (g.at z.1 z.4));
}

pub sum_plain : {s : Store} {k d : ℕ} {t a b : TyId} → TwoTys s t a b sum_ty → MeansPlain s k d a → MeansPlain s k d b → MeansPlain s k d t
sum_plain {k = k} {d = d} w f g = record { at = λ u m. let z = w.at u m in subst (IsPlain k d) (sym z.2) (f.at z.0 z.3, g.at z.1 z.4) }

pub key_plain : {s : Store} {k d : ℕ} {t a : TyId} → OneTy s t a key → MeansPlain s k d a → MeansPlain s k d t
key_plain {k = k} {d = d} w f = record { at = λ u m. let z = w.at u m in subst (IsPlain k d) (sym z.1) (f.at z.0 z.2) }

all_plain : {k d : ℕ} (ms : List Message) (ids : List AtomId) → ((i : ℕ) (a : AtomId) → slice_get ids i ≡ Some a → plain_atom k d (atom_at ms a) ≡ true) → ArePlain k d (map (atom_at ms) ids)
all_plain ms [] f = plain_none
all_plain ms (a ∷ ids) f = plain_first (f 0 a refl) (all_plain ms ids (λ i. f (suc i)))

pub nonce_plain : {s : Store} {k d : ℕ} {t : TyId} {ids : List AtomId} → NonceTy s t ids → HavePlain s k d ids → MeansPlain s k d t
nonce_plain {s} {k} {d} {ids = ids} w h = record {
  at = λ u m.
      let z = w.at u m in
      let f : ArePlain k d (map (atom_at s.messages) ids) = all_plain s.messages ids h.each in
      subst (IsPlain k d) (sym z.1) record { each = λ a i. f.each a (atom_same_in a (same_sym z.2) i) };
}

-- what is told of a question
pub told_label : {s : Store} {ids : List TyId} (m : MsgId) {n : ℕ} → n ≡ length ids → plain n 0 (message_at s.messages m) ≡ true → TellsTest s ids (Labelled m) true
told_label {s} {ids} m {n = k} q h = λ env n st at.
    let e : labelled n env ≡ true = plain_labelled env n (ap (λ j. plain j 0 n) (sym (q ∙ stand_length st)) ∙ ap (plain k 0) (sym (at_message s.messages m at)) ∙ h) in
    ((λ y. labelled_true n env e), (λ y. refl))

pub told_good : {s : Store} {ids : List TyId} {t : TyId} {n : ℕ} → n ≡ length ids → MeansPlain s n 0 t → TellsTest s ids (Good t) true
told_good {s} {ids} {t} q h = λ env u st mu.
    let e : good env u ≡ true = plain_good_by (ty_nodes u) env u (omega arith) (subst (λ k. IsPlain k 0 u) (q ∙ stand_length st) (h.at u mu)) in
    ((λ y. good_true env u e), (λ y. refl))

pub told_name : {s : Store} {ids : List TyId} (m : MsgId) {t : TyId} {x : ℕ} {b : Bool} → name x ≡ message_at s.messages m → IsTyped s ids (name x) t [] b → TellsTest s ids (Typed m t) b
told_name {s} {ids} m {t} {b = b} q h = typed_in {E = ⊤} s 0 ids m t refl refl (Ok b) (subst (λ n. IsTyped s ids n t [] b) q h)
