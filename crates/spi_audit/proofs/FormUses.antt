-- Uses of the rules of processes, held against the forms that they are asked of.
use Rattle.std.proofs.Common.{◌≡◌, refl, sym, ap, ◌∙◌, subst, ℕ, Bool, true, false, true≢false, List, [], ◌∷◌, ◌++◌, Option, Some, None, Result, IfOk, append_assoc, append-nil}
use Rattle.std.proofs.lemmas.Result.{IfOk-weaker}
use Rattle.spi_term.specs.Term.{Message, Effect, Ty, un, key, nonce, Sends, Stops, Prefix, Recvs, Serves, Begins as BeginsAt, Ends, EndManys, Casts, Fork, Process, recv, serve, begin, end, end_many, cast}
use Rattle.spi_term.specs.Spelling.{Shape}
use Rattle.spi_rules.specs.Environment.{Env, extended, opened, opened_two, opened_ty}
use Rattle.spi_rules.specs.Messages.{IsLabel}
use Rattle.spi_rules.specs.Good.{GoodTy}
use Rattle.spi_rules.specs.Processes.{IsGenerative}
use Rattle.spi_rules.specs.declared.rule.Rule.{Rule}
use Rattle.spi_rules.specs.declared.rule.Rule.TheVariants.{ProcStop, ProcOut, ProcIn, ProcRepeat, ProcBegin, ProcEnd, ProcEndMany, ProcCast, ProcCastUn}
use Rattle.spi_message.specs.Judging.{Numbered, Stands}
use Rattle.spi_message.specs.Tests.{is_un, is_fresh, labelled, good}
use Rattle.spi_message.proofs.Deciding.{is_un_true, good_true, good_from, labelled_true, labelled_from}
use Rattle.spi_audit.specs.declared.asked.Asked.{Asked}
use Rattle.spi_audit.specs.declared.asked.Premises.{Premises}
use Rattle.spi_audit.specs.declared.asked.Premises.TheVariants.{NoPremise, TwoPremises}
use Rattle.spi_audit.specs.Fits.{Subject, of_message, of_process, plain, Fits, fits_stop, fits_out, fits_in, fits_repeat, fits_begin, fits_end, fits_end_many, fits_cast, fits_cast_un}
use Rattle.spi_audit.specs.Asked.{Located, IsTypeAsked, IsBegun, BeginsWalk, AreOpen, open_message, open_processes, begun_none, AnswersLeaf, AnswersPrefix, AnswersFork, TakesUntrusted, TakesLabel, TakesGood}
use Rattle.spi_message.specs.Tested.{IsTest}
use Rattle.spi_audit.proofs.FormPremises.{is_begun, process_open}

-- a test that said yes, and one that said no
pub as_un : (P : Ty → Type 0) (t : Ty) → is_un t ≡ true → P un → P t
as_un P t e x = subst P (sym (is_un_true t e)) x

pub not_un : {t : Ty} → is_un t ≡ false → t ≡ un → ⊥
not_un e q = true≢false (sym (sym e ∙ ap is_un q))

pub is_good : {j : Numbered} (t : Ty) {b : Bool} → IsTest j (λ e. good e t) b → b ≡ true → (e : Env) → Stands j e → GoodTy [] e t
is_good t h q e s = good_true e t (sym (h.at e s) ∙ q)

pub is_not_good : {j : Numbered} (t : Ty) {b : Bool} → IsTest j (λ e. good e t) b → b ≡ false → (e : Env) → Stands j e → GoodTy [] e t → ⊥
is_not_good t h q e s g = true≢false (sym (sym q ∙ (h.at e s ∙ good_from e t g)))

pub is_label : {j : Numbered} (m : Message) {b : Bool} → IsTest j (labelled m) b → b ≡ true → (e : Env) → Stands j e → IsLabel [] e m
is_label m h q e s = labelled_true m e (sym (h.at e s) ∙ q)

pub is_no_label : {j : Numbered} (m : Message) {b : Bool} → IsTest j (labelled m) b → b ≡ false → (e : Env) → Stands j e → IsLabel [] e m → ⊥
is_no_label m h q e s g = true≢false (sym (sym q ∙ (h.at e s ∙ labelled_from g)))

-- what new may not make
pub generated : (t : Ty) → is_fresh t ≡ false → IsGenerative t → ⊥
generated un h g = true≢false h
generated (key t) h g = true≢false h
generated _ h g = g

-- the process of a form, in its environment
module _ (j k : Numbered) (ss : List Shape) {node : ℕ} {a : Asked} (e : Env) (p : Process) (s : Stands j e) where
  pub same : BeginsWalk j k node (λ e. []) a → Located ss node (e ++ []) p → IsBegun k.store ss e a e p
  same h l = is_begun j k ss (λ e. []) e e p (sym (append-nil e)) s h l

  pub one : {t : Ty} → BeginsWalk j k node (λ e. t ∷ []) a → Located ss node (e ++ t ∷ []) (opened e p) → IsBegun k.store ss e a (extended e t) (opened e p)
  one {t} h l = is_begun j k ss (λ e. t ∷ []) e (extended e t) (opened e p) refl s h l

  pub two : {t : Ty} (u : Ty) → BeginsWalk j k node (λ e. t ∷ (opened_ty e u ∷ [])) a → Located ss node (e ++ t ∷ (opened_ty e u ∷ [])) (opened_two e p)
      → IsBegun k.store ss e a (extended (extended e t) (opened_ty e u)) (opened_two e p)
  two {t} u h l =
      is_begun j k ss (λ e. t ∷ (opened_ty e u ∷ [])) e (extended (extended e t) (opened_ty e u)) (opened_two e p) (append_assoc e (t ∷ []) (opened_ty e u ∷ [])) s h l

-- the rule of an arm
module _ (j k : Numbered) (rule w : Rule) (q : rule ≡ w) where
  pub prefix_arm : {E : Type 0} (s : Prefix) (body : ℕ) (r : Result (Option Premises) E) → IfOk r (AnswersPrefix j k w s body) → IfOk r (AnswersPrefix j k rule s body)
  prefix_arm s body r h =
      IfOk-weaker r (AnswersPrefix j k w s body) (AnswersPrefix j k rule s body) (λ o h. subst (λ w. AnswersPrefix j k w s body o) (sym q) h) h

  pub fork_arm : {E : Type 0} (f : Fork) (first rest : ℕ) (r : Result (Option Premises) E) → IfOk r (AnswersFork j k w f first rest) → IfOk r (AnswersFork j k rule f first rest)
  fork_arm f first rest r h =
      IfOk-weaker r (AnswersFork j k w f first rest) (AnswersFork j k rule f first rest) (λ o h. subst (λ w. AnswersFork j k w f first rest o) (sym q) h) h

-- forms without a process
pub stop_fits : (j : Numbered) (rule : Rule) → rule ≡ ProcStop → AnswersLeaf j j rule Stops (Some NoPremise)
stop_fits j rule q =
    subst (λ r. AnswersLeaf j j r Stops (Some NoPremise)) (sym q) (record { at = λ ss e s. ([], fits_stop, open_processes begun_none) })

pub send_fits : (j k : Numbered) (rule : Rule) {m n : Message} {a b : Asked} → rule ≡ ProcOut → IsTypeAsked k.store a m un → IsTypeAsked k.store b n un → AnswersLeaf j k rule (Sends m n) (Some (TwoPremises a b))
send_fits j k rule {m} {n} {a} {b} q x y =
    subst (λ r. AnswersLeaf j k r (Sends m n) (Some (TwoPremises a b))) (sym q) (record { at = λ ss e s. (of_message e m un ∷ (of_message e n un ∷ []), fits_out, open_message x (open_message y (open_processes begun_none))) })

-- forms under one name of an untrusted type
module _ (j k : Numbered) where
  under_un : (ss : List Shape) (e : Env) (p : Process) {body : ℕ} {m : Message} {t : Ty} {a b : Asked} → Stands j e → IsTypeAsked k.store a m un → BeginsWalk j k body (λ e. t ∷ []) b → Located ss body (e ++ t ∷ []) (opened e p)
      → AreOpen k.store ss e (a ∷ (b ∷ [])) (of_message e m un ∷ (of_process (extended e t) (opened e p) ∷ []))
  under_un ss e p s x y l = open_message x (process_open (one j k ss e p s y l))

  recv_un : {m : Message} {body : ℕ} {a b : Asked} → IsTypeAsked k.store a m un → BeginsWalk j k body (λ e. un ∷ []) b → AnswersPrefix j k ProcIn (Recvs m un) body (Some (TwoPremises a b))
  recv_un {m} x y = record {
    at = λ ss e p s l. (of_message e m un ∷ (of_process (extended e un) (opened e p) ∷ []), fits_in, under_un ss e p s x y l);
  }

  serve_un : {m : Message} {body : ℕ} {a b : Asked} → IsTypeAsked k.store a m un → BeginsWalk j k body (λ e. un ∷ []) b → AnswersPrefix j k ProcRepeat (Serves m un) body (Some (TwoPremises a b))
  serve_un {m} x y = record {
    at = λ ss e p s l. (of_message e m un ∷ (of_process (extended e un) (opened e p) ∷ []), fits_repeat, under_un ss e p s x y l);
  }

  cast_un : {m : Message} {body : ℕ} {a b : Asked} → IsTypeAsked k.store a m un → BeginsWalk j k body (λ e. un ∷ []) b → AnswersPrefix j k ProcCastUn (Casts m un) body (Some (TwoPremises a b))
  cast_un {m} x y = record {
    at = λ ss e p s l. (of_message e m un ∷ (of_process (extended e un) (opened e p) ∷ []), fits_cast_un, under_un ss e p s x y l);
  }

  recv_type : {e : Env} {m : Message} {t : Ty} {p : Process} {ps : List Subject} → Fits (plain ProcIn) (of_process e (recv m t p)) ps → t ≡ un
  recv_type fits_in = refl

  serve_type : {e : Env} {m : Message} {t : Ty} {p : Process} {ps : List Subject} → Fits (plain ProcRepeat) (of_process e (serve m t p)) ps → t ≡ un
  serve_type fits_repeat = refl

  cast_type : {e : Env} {m : Message} {t : Ty} {p : Process} {ps : List Subject} → Fits (plain ProcCastUn) (of_process e (cast m t p)) ps → t ≡ un
  cast_type fits_cast_un = refl

  recv_takes : (m : Message) (t : Ty) (body : ℕ) (r : Option Premises) → TakesUntrusted j k m t body r → AnswersPrefix j k ProcIn (Recvs m t) body r
  recv_takes m t body None h = record { at = λ ss e p s l ps f. not_un h (recv_type f) }
  recv_takes m t body (Some p) (a, b, q, x, y, u) =
      subst (λ p. AnswersPrefix j k ProcIn (Recvs m t) body (Some p)) (sym q)
      (as_un (λ t. BeginsWalk j k body (λ e. t ∷ []) b → AnswersPrefix j k ProcIn (Recvs m t) body (Some (TwoPremises a b))) t u (λ y. recv_un x y) y)

  serve_takes : (m : Message) (t : Ty) (body : ℕ) (r : Option Premises) → TakesUntrusted j k m t body r → AnswersPrefix j k ProcRepeat (Serves m t) body r
  serve_takes m t body None h = record { at = λ ss e p s l ps f. not_un h (serve_type f) }
  serve_takes m t body (Some p) (a, b, q, x, y, u) =
      subst (λ p. AnswersPrefix j k ProcRepeat (Serves m t) body (Some p)) (sym q)
      (as_un (λ t. BeginsWalk j k body (λ e. t ∷ []) b → AnswersPrefix j k ProcRepeat (Serves m t) body (Some (TwoPremises a b))) t u (λ y. serve_un x y) y)

  cast_takes : (m : Message) (t : Ty) (body : ℕ) (r : Option Premises) → TakesUntrusted j k m t body r → AnswersPrefix j k ProcCastUn (Casts m t) body r
  cast_takes m t body None h = record { at = λ ss e p s l ps f. not_un h (cast_type f) }
  cast_takes m t body (Some p) (a, b, q, x, y, u) =
      subst (λ p. AnswersPrefix j k ProcCastUn (Casts m t) body (Some p)) (sym q)
      (as_un (λ t. BeginsWalk j k body (λ e. t ∷ []) b → AnswersPrefix j k ProcCastUn (Casts m t) body (Some (TwoPremises a b))) t u (λ y. cast_un x y) y)

  pub recv_answers : {E : Type 0} (rule : Rule) (m : Message) (t : Ty) (body : ℕ) (r : Result (Option Premises) E) → rule ≡ ProcIn → IfOk r (TakesUntrusted j k m t body) → IfOk r (AnswersPrefix j k rule (Recvs m t) body)
  recv_answers rule m t body r q h =
      prefix_arm j k rule ProcIn q (Recvs m t) body r (IfOk-weaker r (TakesUntrusted j k m t body) (AnswersPrefix j k ProcIn (Recvs m t) body) (recv_takes m t body) h)

  pub serve_answers : {E : Type 0} (rule : Rule) (m : Message) (t : Ty) (body : ℕ) (r : Result (Option Premises) E) → rule ≡ ProcRepeat → IfOk r (TakesUntrusted j k m t body) → IfOk r (AnswersPrefix j k rule (Serves m t) body)
  serve_answers rule m t body r q h =
      prefix_arm j k rule ProcRepeat q (Serves m t) body r (IfOk-weaker r (TakesUntrusted j k m t body) (AnswersPrefix j k ProcRepeat (Serves m t) body) (serve_takes m t body) h)

  pub cast_un_answers : {E : Type 0} (rule : Rule) (m : Message) (t : Ty) (body : ℕ) (r : Result (Option Premises) E) → rule ≡ ProcCastUn → IfOk r (TakesUntrusted j k m t body) → IfOk r (AnswersPrefix j k rule (Casts m t) body)
  cast_un_answers rule m t body r q h =
      prefix_arm j k rule ProcCastUn q (Casts m t) body r (IfOk-weaker r (TakesUntrusted j k m t body) (AnswersPrefix j k ProcCastUn (Casts m t) body) (cast_takes m t body) h)

  -- a cast to a Nonce type
  cast_good_type : {e : Env} {m : Message} {t : Ty} {p : Process} {ps : List Subject} → Fits (plain ProcCast) (of_process e (cast m t p)) ps → GoodTy [] e t
  cast_good_type (fits_cast g) = g

  cast_nonce_type : {e : Env} {m : Message} {t : Ty} {p : Process} {ps : List Subject} → Fits (plain ProcCast) (of_process e (cast m t p)) ps → (fs : Effect) × (t ≡ nonce fs)
  cast_nonce_type (fits_cast {fs = fs} g) = (fs, refl)

  pub cast_not : (m : Message) (t : Ty) (body : ℕ) → ((fs : Effect) → t ≡ nonce fs → ⊥) → AnswersPrefix j k ProcCast (Casts m t) body None
  cast_not m t body h = record { at = λ ss e p s l ps f. let w = cast_nonce_type f in h w.0 w.1 }

  cast_nonce : (m : Message) (fs : Effect) (body : ℕ) (r : Option Premises) → TakesGood j k m (nonce fs) body r → AnswersPrefix j k ProcCast (Casts m (nonce fs)) body r
  cast_nonce m fs body None h = record { at = λ ss e p s l ps f. h e s (cast_good_type f) }
  cast_nonce m fs body (Some p) (a, b, q, x, y, g) =
      subst (λ p. AnswersPrefix j k ProcCast (Casts m (nonce fs)) body (Some p)) (sym q) (record {
        at = λ ss e p s l. (of_message e m un ∷ (of_process (extended e (nonce fs)) (opened e p) ∷ []), fits_cast (g e s), under_un ss e p s x y l);
      })

  pub cast_answers : {E : Type 0} (m : Message) (t : Ty) (fs : Effect) (body : ℕ) (r : Result (Option Premises) E) → t ≡ nonce fs → IfOk r (TakesGood j k m t body) → IfOk r (AnswersPrefix j k ProcCast (Casts m t) body)
  cast_answers m t fs body r q h =
      subst (λ t. IfOk r (TakesGood j k m t body) → IfOk r (AnswersPrefix j k ProcCast (Casts m t) body)) (sym q)
      (IfOk-weaker r (TakesGood j k m (nonce fs) body) (AnswersPrefix j k ProcCast (Casts m (nonce fs)) body) (cast_nonce m fs body)) h

  -- forms behind a label
  begin_label : {e : Env} {m : Message} {p : Process} {ps : List Subject} → Fits (plain ProcBegin) (of_process e (begin m p)) ps → IsLabel [] e m
  begin_label (fits_begin h) = h

  end_label : {e : Env} {m : Message} {p : Process} {ps : List Subject} → Fits (plain ProcEnd) (of_process e (end m p)) ps → IsLabel [] e m
  end_label (fits_end h) = h

  many_label : {e : Env} {m : Message} {p : Process} {ps : List Subject} → Fits (plain ProcEndMany) (of_process e (end_many m p)) ps → IsLabel [] e m
  many_label (fits_end_many h) = h

  begin_takes : (m : Message) (body : ℕ) (r : Option Premises) → TakesLabel j k m body r → AnswersPrefix j k ProcBegin (BeginsAt m) body r
  begin_takes m body None h = record { at = λ ss e p s l ps f. h e s (begin_label f) }
  begin_takes m body (Some p) (a, q, y, g) =
      subst (λ p. AnswersPrefix j k ProcBegin (BeginsAt m) body (Some p)) (sym q) (record { at = λ ss e p s l. (of_process e p ∷ [], fits_begin (g e s), process_open (same j k ss e p s y l)) })

  end_takes : (m : Message) (body : ℕ) (r : Option Premises) → TakesLabel j k m body r → AnswersPrefix j k ProcEnd (Ends m) body r
  end_takes m body None h = record { at = λ ss e p s l ps f. h e s (end_label f) }
  end_takes m body (Some p) (a, q, y, g) =
      subst (λ p. AnswersPrefix j k ProcEnd (Ends m) body (Some p)) (sym q) (record { at = λ ss e p s l. (of_process e p ∷ [], fits_end (g e s), process_open (same j k ss e p s y l)) })

  many_takes : (m : Message) (body : ℕ) (r : Option Premises) → TakesLabel j k m body r → AnswersPrefix j k ProcEndMany (EndManys m) body r
  many_takes m body None h = record { at = λ ss e p s l ps f. h e s (many_label f) }
  many_takes m body (Some p) (a, q, y, g) =
      subst (λ p. AnswersPrefix j k ProcEndMany (EndManys m) body (Some p)) (sym q) (record { at = λ ss e p s l. (of_process e p ∷ [], fits_end_many (g e s), process_open (same j k ss e p s y l)) })

  pub begin_answers : {E : Type 0} (rule : Rule) (m : Message) (body : ℕ) (r : Result (Option Premises) E) → rule ≡ ProcBegin → IfOk r (TakesLabel j k m body) → IfOk r (AnswersPrefix j k rule (BeginsAt m) body)
  begin_answers rule m body r q h =
      prefix_arm j k rule ProcBegin q (BeginsAt m) body r (IfOk-weaker r (TakesLabel j k m body) (AnswersPrefix j k ProcBegin (BeginsAt m) body) (begin_takes m body) h)

  pub end_answers : {E : Type 0} (rule : Rule) (m : Message) (body : ℕ) (r : Result (Option Premises) E) → rule ≡ ProcEnd → IfOk r (TakesLabel j k m body) → IfOk r (AnswersPrefix j k rule (Ends m) body)
  end_answers rule m body r q h =
      prefix_arm j k rule ProcEnd q (Ends m) body r (IfOk-weaker r (TakesLabel j k m body) (AnswersPrefix j k ProcEnd (Ends m) body) (end_takes m body) h)

  pub many_answers : {E : Type 0} (rule : Rule) (m : Message) (body : ℕ) (r : Result (Option Premises) E) → rule ≡ ProcEndMany → IfOk r (TakesLabel j k m body) → IfOk r (AnswersPrefix j k rule (EndManys m) body)
  many_answers rule m body r q h =
      prefix_arm j k rule ProcEndMany q (EndManys m) body r (IfOk-weaker r (TakesLabel j k m body) (AnswersPrefix j k ProcEndMany (EndManys m) body) (many_takes m body) h)
