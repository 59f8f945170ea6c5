-- Answers that are kept stay right as the store grows and as names come and go.
use Rattle.std.proofs.Common.{◌≡◌, ℕ, ◌-◌, ◌<◌, ◌≤◌, Bool, List, [], ◌∷◌, ◌++◌, Option, Some, sym, ap, subst, slice_get, length, length-append, take, drop, get_or, inl, inr, ◌⊎◌, arith}
use Rattle.std.specs.Option.{option_to_list}
use native.Mathlib.Decide.{dec_lt}
use Rattle.std.proofs.lemmas.List.{take-append-le, take-append-drop, take_all}
use Rattle.std.proofs.lemmas.Option.{slice_get_within, slice_get-get_or}
use Rattle.spi_term.proofs.Lists.{get_append}
use Rattle.spi_rules.specs.Environment.{Env}
use Rattle.spi_intern.specs.Given.{IsGiven}
use Rattle.spi_intern.specs.Meaning.{Keeps}
use Rattle.spi_intern.specs.declared.types.TyId.{TyId}
use Rattle.spi_intern.specs.declared.store.Store.{Store}
use Rattle.spi_intern.proofs.Lists.{get_push}
use Rattle.spi_intern.proofs.Meanings.{means_keeps}
use Rattle.spi_message.specs.declared.answers.Asked.{Asked}
use Rattle.spi_message.specs.declared.answers.Asked.TheVariants.{Typed, Labelled, Good}
use Rattle.spi_message.specs.declared.answers.Question.{Question}
use Rattle.spi_message.specs.Judging.{StandFor}
use Rattle.spi_message.specs.Asking.{IsEnvironment}
use Rattle.spi_message.specs.Answered.{Entries, question, TellsTest, CanAsk, IsTestAnswer, AreAnswers, IsKeptAnswer, EndsWithin, IsInside}
use Rattle.spi_message.proofs.Earlier.{message_back, means_back, stand_back}
use Rattle.spi_message.proofs.Fills.{below_keeps}
use Rattle.spi_message.proofs.Judges.{judge_keeps, judge_bound, judge_unbound}
use Rattle.spi_message.proofs.Standing.{stand_front}

stand_taken : {s : Store} (ids : List TyId) {e : Env} (n : ℕ) → StandFor s ids e → (front : Env) × StandFor s (take n ids) front
stand_taken {s} ids {e} n h = stand_front (take n ids) (drop n ids) (subst (λ is. StandFor s is e) (sym (take-append-drop n ids)) h)

can_keeps : {s r : Store} → Keeps s r → (n : ℕ) (a : Asked) → CanAsk s n a → CanAsk r n a
can_keeps k n (Typed m t) c = (below_keeps m k.messages c.0, record { type = c.1.type; means = means_keeps k c.1.means })
can_keeps k n (Labelled m) c = below_keeps m k.messages c
can_keeps k n (Good t) c = record { type = c.type; means = means_keeps k c.means; few = c.few }

-- an answer stays right as the store grows
tells_keeps : {s r : Store} {ids : List TyId} {d : Env} → Keeps s r → StandFor s ids d → (n : ℕ) (a : Asked) (b : Bool) → CanAsk s n a → TellsTest s ids a b → TellsTest r ids a b
tells_keeps k w n (Typed m t) b c h = λ e x u st at mu. h e x u (stand_back k w st) (message_back k.messages m.place x c.0 at) (means_back k c.1.means mu)
tells_keeps k w n (Labelled m) b c h = λ e x st at. h e x (stand_back k w st) (message_back k.messages m.place x c at)
tells_keeps k w n (Good t) b c h = λ e u st mu. h e u (stand_back k w st) (means_back k c.means mu)

pub answers_none : {s : Store} {ids : List TyId} {es : Entries} → es ≡ [] → AreAnswers s ids es
answers_none {s} {ids} e = subst (AreAnswers s ids) (sym e) record {
  each = λ i q b h. absurd cc;
  order = λ i j q r b c l h g. absurd cc;
}

pub answers_keep : {s r : Store} {ids : List TyId} {es : Entries} {d : Env} → Keeps s r → StandFor s ids d → AreAnswers s ids es → AreAnswers r ids es
answers_keep {ids = ids} k w ks = record {
  each = λ i q b h.
      let a = ks.each i q b h in
      record {
        within = a.within;
        asked = can_keeps k q.names q.asked a.asked;
        tells = tells_keeps k (stand_taken ids q.names w).1 q.names q.asked b a.asked a.tells;
      };
  order = ks.order;
}

-- one more name
pub answers_bound : {s : Store} {ids js : List TyId} {es : Entries} (t : TyId) → js ≡ ids ++ t ∷ [] → AreAnswers s ids es → AreAnswers s js es
answers_bound {s} {ids} {js} {es} t p ks = subst (λ is. AreAnswers s is es) (sym p) record {
  each = λ i q b h.
      let a = ks.each i q b h in
      record {
        within = let w = a.within in let e = length-append ids (t ∷ []) in omega arith;
        asked = a.asked;
        tells = subst (λ is. TellsTest s is q.asked b) (sym (take-append-le q.names ids (t ∷ []) a.within)) a.tells;
      };
  order = ks.order;
}

-- no answer is of a longer environment than the last one
ends_within : {s : Store} {ids : List TyId} (fs gone : Entries) (n : ℕ) → AreAnswers s ids (fs ++ gone) → EndsWithin fs n → (i : ℕ) (q : Question) (b : Bool) → slice_get fs i ≡ Some (q, b) → q.names ≤ n
ends_within fs gone n ks w i q b h =
    let l = slice_get_within fs i (q, b) h in
    let x = get_or fs (length fs - 1) (q, b) in
    let g : slice_get fs (length fs - 1) ≡ Some x = slice_get-get_or fs (length fs - 1) (q, b) (omega arith) in
    let low : x.0.names ≤ n = w.last (length fs - 1) x.0 x.1 g (omega arith) in
    elim (dec_lt i (length fs - 1)) [
      | yes e ↦ let o : q.names ≤ x.0.names = ks.order i (length fs - 1) q x.0 b x.1 e (get_append fs gone i (q, b) h) (get_append fs gone (length fs - 1) x g) in omega arith
      | no e ↦ w.last i q b h (omega arith)
    ]

-- names, and the answers that were given where they were in scope, go
pub answers_cut : {s : Store} {ids js : List TyId} {es fs : Entries} (rest : List TyId) (gone : Entries) → ids ≡ js ++ rest → es ≡ fs ++ gone → EndsWithin fs (length js) → AreAnswers s ids es → AreAnswers s js fs
answers_cut {s} {ids} {js} {es} {fs} rest gone p e w ks = cut (subst (λ is. AreAnswers s is (fs ++ gone)) p (subst (AreAnswers s ids) e ks))
  where
    cut : AreAnswers s (js ++ rest) (fs ++ gone) → AreAnswers s js fs
    cut ks = record {
      each = λ i q b h.
          let a = ks.each i q b (get_append fs gone i (q, b) h) in
          let l = ends_within fs gone (length js) ks w i q b h in
          record { within = l; asked = a.asked; tells = subst (λ is. TellsTest s is q.asked b) (take-append-le q.names js rest l) a.tells };
      order = λ i j q r b c l h g. ks.order i j q r b c l (get_append fs gone i (q, b) h) (get_append fs gone j (r, c) g);
    }

-- one more answer
pub answers_push : {s : Store} {ids : List TyId} {es fs : Entries} (n : ℕ) (a : Asked) (b : Bool) → n ≡ length ids → fs ≡ es ++ (question n a, b) ∷ [] → CanAsk s n a → TellsTest s ids a b → AreAnswers s ids es → AreAnswers s ids fs
answers_push {s} {ids} {es} {fs} n a b v p c t ks = subst (AreAnswers s ids) (sym p) record {
  each = λ i q d h. elim (get_push es (question n a, b) i (q, d) h) [ inl g ↦ ks.each i q d g | inr g ↦ subst (λ y. IsTestAnswer s ids y.0 y.1) (sym g.1) new ];
  order = λ i j q r d k l h g. ordered i j q r d k l (get_push es (question n a, b) i (q, d) h) (get_push es (question n a, b) j (r, k) g);
}
  where
    new : IsTestAnswer s ids (question n a) b
    new = record { within = omega arith; asked = c; tells = subst (λ is. TellsTest s is a b) (sym (take_all n ids (omega arith))) t }

    ordered : (i j : ℕ) (q r : Question) (d k : Bool) → i < j → (slice_get es i ≡ Some (q, d)) ⊎ ((i ≡ length es) × (◌≡◌ {A = Question × Bool} (q, d) (question n a, b))) → (slice_get es j ≡ Some (r, k)) ⊎ ((j ≡ length es) × (◌≡◌ {A = Question × Bool} (r, k) (question n a, b))) → q.names ≤ r.names
    ordered i j q r d k l (inl h) (inl g) = ks.order i j q r d k l h g
    ordered i j q r d k l (inl h) (inr g) = let w = (ks.each i q d h).within in let e = ap (λ y. y.0.names) g.1 in omega arith
    ordered i j q r d k l (inr h) (inl g) = absurd (let w = slice_get_within es j (r, k) g in let e = h.0 in omega arith)
    ordered i j q r d k l (inr h) (inr g) = absurd (let e = h.0 in let f = g.0 in omega arith)

-- what is kept after a question: as before, or one answer more
pub still_kept : {s r : Store} {ids js : List TyId} {es fs : Entries} → Keeps s r → IsEnvironment s ids → js ≡ ids → fs ≡ es → AreAnswers s ids es → AreAnswers r js fs
still_kept {r = r} {es = es} {fs = fs} k w p e ks = subst (λ is. AreAnswers r is fs) (sym p) (subst (AreAnswers r _) (sym e) (answers_keep k w.stands ks))

pub one_more : {s r : Store} {ids js : List TyId} {es fs : Entries} (n : ℕ) (a : Asked) (b : Bool) → Keeps s r → IsEnvironment s ids → js ≡ ids → n ≡ length ids → fs ≡ es ++ (question n a, b) ∷ [] → CanAsk s (length ids) a → TellsTest s ids a b → AreAnswers s ids es → AreAnswers r js fs
one_more {s} {r} {ids} {fs = fs} n a b k w p v e c t ks =
    let d : CanAsk s n a = subst (λ m. CanAsk s m a) (sym v) c in
    subst (λ is. AreAnswers r is fs) (sym p) (answers_push n a b v e (can_keeps k n a d) (tells_keeps k w.stands n a b d t) (answers_keep k w.stands ks))

-- the answer that is found
pub answer_held : {s : Store} {ids : List TyId} {es : Entries} (n : ℕ) (a : Asked) (b : Bool) → n ≡ length ids → AreAnswers s ids es → IsKeptAnswer es (question n a) b → TellsTest s ids a b
answer_held {s} {ids} n a b v ks h = subst (λ is. TellsTest s is a b) (take_all n ids (omega arith)) (ks.each h.place (question n a) b h.at).tells

-- what holds of every judge goes on to hold
pub inside_keeps : {s r : Store} {f : ℕ} {ids js : List TyId} {es : Entries} → Keeps s r → js ≡ ids → IsInside s f ids es → IsInside r f js es
inside_keeps {r = r} {es = es} k p h = record {
  judge = judge_keeps k p h.judge;
  answers = subst (λ is. AreAnswers r is es) (sym p) (answers_keep k h.judge.stands h.answers);
}

pub inside_answers : {s r : Store} {f : ℕ} {ids js : List TyId} {es fs : Entries} → Keeps s r → js ≡ ids → AreAnswers r js fs → IsInside s f ids es → IsInside r f js fs
inside_answers k p ks h = record { judge = judge_keeps k p h.judge; answers = ks }

pub inside_bound : {s : Store} {f : ℕ} {ids js : List TyId} {es : Entries} {t : TyId} → IsInside s f ids es → IsGiven s t.place → length ids < 4294967295 → js ≡ ids ++ t ∷ [] → IsInside s f js es
inside_bound {t = t} h g l p = record { judge = judge_bound h.judge g l p; answers = answers_bound t p h.answers }

pub inside_unbound : {s : Store} {f n : ℕ} {ids js : List TyId} {es fs : Entries} (o : Option TyId) → IsInside s f ids es → ids ≡ js ++ option_to_list o → f < length ids → n ≡ length js → (gone : Entries) × (es ≡ fs ++ gone) → EndsWithin fs n → IsInside s f js fs
inside_unbound {fs = fs} o h p l v g w = record { judge = judge_unbound o h.judge p l; answers = answers_cut (option_to_list o) g.0 p g.1 (subst (EndsWithin fs) v w) h.answers }
