-- Uses of the rules of processes that take a message apart, and of those that check and that make one.
use Rattle.std.proofs.Common.{◌≡◌, refl, sym, subst, ℕ, true, false, List, [], ◌∷◌, Some, None}
use Rattle.spi_term.specs.Term.{Message, Effect, Ty, un, pair_ty, sum_ty, key, Splits, Selects, Decrypts, Checks, Freshes, Branches, Pars, Process, split, select, branch, decrypt, check, fresh}
use Rattle.spi_term.specs.Substitution.{ty_put}
use Rattle.spi_rules.specs.Environment.{Env, extended, opened, opened_two, opened_ty}
use Rattle.spi_rules.specs.Good.{GoodTy}
use Rattle.spi_rules.specs.Processes.{IsNonce, IsGenerative}
use Rattle.spi_rules.specs.declared.rule.Rule.{Rule}
use Rattle.spi_rules.specs.declared.rule.Rule.TheVariants.{ProcSplit, ProcSplitUn, ProcMatch, ProcMatchUn, ProcCase, ProcCaseUn, ProcDecrypt, ProcDecryptUn, ProcCheck, ProcCheckUn, ProcNew, ProcPar}
use Rattle.spi_intern.specs.declared.types.TyId.{TyId}
use Rattle.spi_message.specs.Judging.{Numbered, Stands, IsKept}
use Rattle.spi_message.specs.Tests.{is_un, is_fresh}
use Rattle.spi_audit.specs.declared.asked.Asked.{Asked}
use Rattle.spi_audit.specs.declared.asked.Premises.TheVariants.{OnePremise, TwoPremises, ThreePremises}
use Rattle.spi_audit.specs.Fits.{Subject, of_message, of_process, plain, Fits, fits_split, fits_split_un, fits_match, fits_match_un, fits_case, fits_case_un, fits_decrypt, fits_decrypt_un, fits_check, fits_check_un, fits_new, fits_par}
use Rattle.spi_audit.specs.Asked.{IsTypeAsked, BeginsWalk, open_message, AnswersPrefix, AnswersFork}
use Rattle.spi_message.specs.Tested.{IsNonceAt, IsNoNonce}
use Rattle.spi_message.proofs.Deciding.{nonce_sound, nonce_complete, fresh_sound}
use Rattle.spi_message.proofs.Tested.{stands_kept}
use Rattle.spi_audit.proofs.FormPremises.{process_open, two_open}
use Rattle.spi_audit.proofs.FormUses.{as_un, not_un, generated, same, one, two}

-- a type that is good later is good before
pub good_later : (i j : Numbered) (t : Ty) → IsKept i j → ((e : Env) → Stands j e → GoodTy [] e t) → (e : Env) → Stands i e → GoodTy [] e t
good_later i j t h g e s = g e (stands_kept {j = i} {k = j} h s)

pub bad_later : (i j : Numbered) (t : Ty) → IsKept i j → ((e : Env) → Stands j e → GoodTy [] e t → ⊥) → (e : Env) → Stands i e → GoodTy [] e t → ⊥
bad_later i j t h g e s = g e (stands_kept {j = i} {k = j} h s)

-- what a use that fits says
split_good : {e : Env} {m : Message} {t u : Ty} {p : Process} {ps : List Subject} → Fits (plain ProcSplit) (of_process e (split m t u p)) ps → GoodTy [] e (pair_ty t u)
split_good (fits_split g) = g

split_types : {e : Env} {m : Message} {t u : Ty} {p : Process} {ps : List Subject} → Fits (plain ProcSplitUn) (of_process e (split m t u p)) ps → (t ≡ un) × (u ≡ un)
split_types fits_split_un = (refl, refl)

select_good : {e : Env} {m n : Message} {t u : Ty} {p : Process} {ps : List Subject} → Fits (plain ProcMatch) (of_process e (select m t n u p)) ps → GoodTy [] e (pair_ty t u)
select_good (fits_match g) = g

select_types : {e : Env} {m n : Message} {t u : Ty} {p : Process} {ps : List Subject} → Fits (plain ProcMatchUn) (of_process e (select m t n u p)) ps → (t ≡ un) × (u ≡ un)
select_types fits_match_un = (refl, refl)

branch_good : {e : Env} {m : Message} {t u : Ty} {p q : Process} {ps : List Subject} → Fits (plain ProcCase) (of_process e (branch m t p u q)) ps → GoodTy [] e t × GoodTy [] e u
branch_good (fits_case g h) = (g, h)

branch_types : {e : Env} {m : Message} {t u : Ty} {p q : Process} {ps : List Subject} → Fits (plain ProcCaseUn) (of_process e (branch m t p u q)) ps → (t ≡ un) × (u ≡ un)
branch_types fits_case_un = (refl, refl)

decrypt_good : {e : Env} {m n : Message} {t : Ty} {p : Process} {ps : List Subject} → Fits (plain ProcDecrypt) (of_process e (decrypt m t n p)) ps → GoodTy [] e t
decrypt_good (fits_decrypt g) = g

decrypt_type : {e : Env} {m n : Message} {t : Ty} {p : Process} {ps : List Subject} → Fits (plain ProcDecryptUn) (of_process e (decrypt m t n p)) ps → t ≡ un
decrypt_type fits_decrypt_un = refl

check_nonce : {e : Env} {m n : Message} {p : Process} {ps : List Subject} → Fits (plain ProcCheck) (of_process e (check m n p)) ps → (fs : Effect) × IsNonce [] e n fs
check_nonce (fits_check {fs = fs} h) = (fs, h)

fresh_parts : {e : Env} {t : Ty} {p : Process} {ps : List Subject} → Fits (plain ProcNew) (of_process e (fresh t p)) ps → IsGenerative t × GoodTy [] e t
fresh_parts (fits_new g h) = (g, h)

module _ (j k : Numbered) (m : Message) where
  -- a pair in its parts
  module _ (t u : Ty) (body : ℕ) where
    pub split_bad : (v : Ty) → v ≡ pair_ty t u → ((e : Env) → Stands j e → GoodTy [] e v → ⊥) → AnswersPrefix j k ProcSplit (Splits m t u) body None
    split_bad v q h = record { at = λ ss e p s l ps f. h e s (subst (GoodTy [] e) (sym q) (split_good f)) }

    pub split_fits : (v : Ty) {a b : Asked} → v ≡ pair_ty t u → ((e : Env) → Stands j e → GoodTy [] e v) → IsTypeAsked k.store a m v → BeginsWalk j k body (λ e. t ∷ (opened_ty e u ∷ [])) b
        → AnswersPrefix j k ProcSplit (Splits m t u) body (Some (TwoPremises a b))
    split_fits v {a} q g x y = record {
      at = λ ss e p s l. (
        of_message e m (pair_ty t u) ∷ (of_process (extended (extended e t) (opened_ty e u)) (opened_two e p) ∷ []),
        fits_split (subst (GoodTy [] e) q (g e s)),
        open_message (subst (IsTypeAsked k.store a m) q x) (process_open (two j k ss e p s u y l)),
      );
    }

    pub split_first : is_un t ≡ false → AnswersPrefix j k ProcSplitUn (Splits m t u) body None
    split_first h = record { at = λ ss e p s l ps f. not_un h (split_types f).0 }

    pub split_second : is_un u ≡ false → AnswersPrefix j k ProcSplitUn (Splits m t u) body None
    split_second h = record { at = λ ss e p s l ps f. not_un h (split_types f).1 }

    pub split_un_fits : {a b : Asked} → is_un t ≡ true → is_un u ≡ true → IsTypeAsked k.store a m un → BeginsWalk j k body (λ e. t ∷ (opened_ty e u ∷ [])) b
        → AnswersPrefix j k ProcSplitUn (Splits m t u) body (Some (TwoPremises a b))
    split_un_fits {a} {b} h g x y =
        as_un (λ t. BeginsWalk j k body (λ e. t ∷ (opened_ty e u ∷ [])) b → AnswersPrefix j k ProcSplitUn (Splits m t u) body (Some (TwoPremises a b))) t h
        (as_un (λ u. BeginsWalk j k body (λ e. un ∷ (opened_ty e u ∷ [])) b → AnswersPrefix j k ProcSplitUn (Splits m un u) body (Some (TwoPremises a b))) u g (λ y. record {
          at = λ ss e p s l. (
            of_message e m un ∷ (of_process (extended (extended e un) un) (opened_two e p) ∷ []),
            fits_split_un,
            open_message x (process_open (two j k ss e p s un y l)),
          );
        })) y

  -- a pair with a first part that is known
  module _ (n : Message) (t u : Ty) (body : ℕ) where
    pub select_bad : (v : Ty) → v ≡ pair_ty t u → ((e : Env) → Stands j e → GoodTy [] e v → ⊥) → AnswersPrefix j k ProcMatch (Selects m t n u) body None
    select_bad v q h = record { at = λ ss e p s l ps f. h e s (subst (GoodTy [] e) (sym q) (select_good f)) }

    pub select_fits : (v : Ty) {a b c : Asked} → v ≡ pair_ty t u → ((e : Env) → Stands j e → GoodTy [] e v) → IsTypeAsked k.store a m v → IsTypeAsked k.store b n t → BeginsWalk j k body (λ e. ty_put n u ∷ []) c
        → AnswersPrefix j k ProcMatch (Selects m t n u) body (Some (ThreePremises a b c))
    select_fits v {a} q g x y z = record {
      at = λ ss e p s l. (
        of_message e m (pair_ty t u) ∷ (of_message e n t ∷ (of_process (extended e (ty_put n u)) (opened e p) ∷ [])),
        fits_match (subst (GoodTy [] e) q (g e s)),
        open_message (subst (IsTypeAsked k.store a m) q x) (open_message y (process_open (one j k ss e p s z l))),
      );
    }

    pub select_first : is_un t ≡ false → AnswersPrefix j k ProcMatchUn (Selects m t n u) body None
    select_first h = record { at = λ ss e p s l ps f. not_un h (select_types f).0 }

    pub select_second : is_un u ≡ false → AnswersPrefix j k ProcMatchUn (Selects m t n u) body None
    select_second h = record { at = λ ss e p s l ps f. not_un h (select_types f).1 }

    pub select_un_fits : {a b c : Asked} → is_un t ≡ true → is_un u ≡ true → IsTypeAsked k.store a m un → IsTypeAsked k.store b n un → BeginsWalk j k body (λ e. u ∷ []) c
        → AnswersPrefix j k ProcMatchUn (Selects m t n u) body (Some (ThreePremises a b c))
    select_un_fits {a} {b} {c} h g x y z =
        as_un (λ t. AnswersPrefix j k ProcMatchUn (Selects m t n u) body (Some (ThreePremises a b c))) t h
        (as_un (λ u. BeginsWalk j k body (λ e. u ∷ []) c → AnswersPrefix j k ProcMatchUn (Selects m un n u) body (Some (ThreePremises a b c))) u g (λ z. record {
          at = λ ss e p s l. (
            of_message e m un ∷ (of_message e n un ∷ (of_process (extended e un) (opened e p) ∷ [])),
            fits_match_un,
            open_message x (open_message y (process_open (one j k ss e p s z l))),
          );
        }) z)

  -- a sum by its side
  module _ (t u : Ty) (first rest : ℕ) where
    pub branch_left_bad : ((e : Env) → Stands j e → GoodTy [] e t → ⊥) → AnswersFork j k ProcCase (Branches m t u) first rest None
    branch_left_bad h = record { at = λ ss e p q s l r ps f. h e s (branch_good f).0 }

    pub branch_right_bad : ((e : Env) → Stands j e → GoodTy [] e u → ⊥) → AnswersFork j k ProcCase (Branches m t u) first rest None
    branch_right_bad h = record { at = λ ss e p q s l r ps f. h e s (branch_good f).1 }

    pub branch_fits : (v : Ty) {a b c : Asked} → v ≡ sum_ty t u → ((e : Env) → Stands j e → GoodTy [] e t) → ((e : Env) → Stands j e → GoodTy [] e u) → IsTypeAsked k.store a m v → BeginsWalk j k first (λ e. t ∷ []) b → BeginsWalk j k rest (λ e. u ∷ []) c
        → AnswersFork j k ProcCase (Branches m t u) first rest (Some (ThreePremises a b c))
    branch_fits v {a} q g h x y z = record {
      at = λ ss e p r s l o. (
        of_message e m (sum_ty t u) ∷ (of_process (extended e t) (opened e p) ∷ (of_process (extended e u) (opened e r) ∷ [])),
        fits_case (g e s) (h e s),
        open_message (subst (IsTypeAsked k.store a m) q x) (two_open (one j k ss e p s y l) (one j k ss e r s z o)),
      );
    }

    pub branch_left : is_un t ≡ false → AnswersFork j k ProcCaseUn (Branches m t u) first rest None
    branch_left h = record { at = λ ss e p q s l r ps f. not_un h (branch_types f).0 }

    pub branch_right : is_un u ≡ false → AnswersFork j k ProcCaseUn (Branches m t u) first rest None
    branch_right h = record { at = λ ss e p q s l r ps f. not_un h (branch_types f).1 }

    pub branch_un_fits : {a b c : Asked} → is_un t ≡ true → is_un u ≡ true → IsTypeAsked k.store a m un → BeginsWalk j k first (λ e. t ∷ []) b → BeginsWalk j k rest (λ e. u ∷ []) c
        → AnswersFork j k ProcCaseUn (Branches m t u) first rest (Some (ThreePremises a b c))
    branch_un_fits {a} {b} {c} h g x y z =
        as_un (λ t. BeginsWalk j k first (λ e. t ∷ []) b → AnswersFork j k ProcCaseUn (Branches m t u) first rest (Some (ThreePremises a b c))) t h
        (λ y. as_un (λ u. BeginsWalk j k rest (λ e. u ∷ []) c → AnswersFork j k ProcCaseUn (Branches m un u) first rest (Some (ThreePremises a b c))) u g (λ z. record {
          at = λ ss e p r s l o. (
            of_message e m un ∷ (of_process (extended e un) (opened e p) ∷ (of_process (extended e un) (opened e r) ∷ [])),
            fits_case_un,
            open_message x (two_open (one j k ss e p s y l) (one j k ss e r s z o)),
          );
        }) z) y

  -- what a key sealed
  module _ (t : Ty) (n : Message) (body : ℕ) where
    pub decrypt_bad : ((e : Env) → Stands j e → GoodTy [] e t → ⊥) → AnswersPrefix j k ProcDecrypt (Decrypts m t n) body None
    decrypt_bad h = record { at = λ ss e p s l ps f. h e s (decrypt_good f) }

    pub decrypt_fits : (v : Ty) {a b c : Asked} → v ≡ key t → ((e : Env) → Stands j e → GoodTy [] e t) → IsTypeAsked k.store a m un → IsTypeAsked k.store b n v → BeginsWalk j k body (λ e. t ∷ []) c
        → AnswersPrefix j k ProcDecrypt (Decrypts m t n) body (Some (ThreePremises a b c))
    decrypt_fits v {a} {b} q g x y z = record {
      at = λ ss e p s l. (
        of_message e m un ∷ (of_message e n (key t) ∷ (of_process (extended e t) (opened e p) ∷ [])),
        fits_decrypt (g e s),
        open_message x (open_message (subst (IsTypeAsked k.store b n) q y) (process_open (one j k ss e p s z l))),
      );
    }

    pub decrypt_typed : is_un t ≡ false → AnswersPrefix j k ProcDecryptUn (Decrypts m t n) body None
    decrypt_typed h = record { at = λ ss e p s l ps f. not_un h (decrypt_type f) }

    pub decrypt_un_fits : {a b c : Asked} → is_un t ≡ true → IsTypeAsked k.store a m un → IsTypeAsked k.store b n un → BeginsWalk j k body (λ e. t ∷ []) c
        → AnswersPrefix j k ProcDecryptUn (Decrypts m t n) body (Some (ThreePremises a b c))
    decrypt_un_fits {a} {b} {c} h x y z =
        as_un (λ t. BeginsWalk j k body (λ e. t ∷ []) c → AnswersPrefix j k ProcDecryptUn (Decrypts m t n) body (Some (ThreePremises a b c))) t h (λ z. record {
          at = λ ss e p s l. (
            of_message e m un ∷ (of_message e n un ∷ (of_process (extended e un) (opened e p) ∷ [])),
            fits_decrypt_un,
            open_message x (open_message y (process_open (one j k ss e p s z l))),
          );
        }) z

  -- a nonce
  module _ (n : Message) (body : ℕ) where
    pub check_no_nonce : IsNoNonce j n → AnswersPrefix j k ProcCheck (Checks m n) body None
    check_no_nonce h = record { at = λ ss e p s l ps f. let w = check_nonce f in absurd (cc (h.at e s, nonce_complete w.1)) }

    pub check_fits : {a b : Asked} {t : TyId} → IsNonceAt j n t → IsTypeAsked k.store a m un → BeginsWalk j k body (λ e. []) b
        → AnswersPrefix j k ProcCheck (Checks m n) body (Some (TwoPremises a b))
    check_fits h x y = record {
      at = λ ss e p s l.
          let w = h.at e s in
          (of_message e m un ∷ (of_process e p ∷ []), fits_check (nonce_sound e n w.0 w.1), open_message x (process_open (same j k ss e p s y l)));
    }

    pub check_un_fits : {a b c : Asked} → IsTypeAsked k.store a m un → IsTypeAsked k.store b n un → BeginsWalk j k body (λ e. []) c
        → AnswersPrefix j k ProcCheckUn (Checks m n) body (Some (ThreePremises a b c))
    check_un_fits x y z = record {
      at = λ ss e p s l. (of_message e m un ∷ (of_message e n un ∷ (of_process e p ∷ [])), fits_check_un, open_message x (open_message y (process_open (same j k ss e p s z l))));
    }

-- a name that is made
module _ (j k : Numbered) (t : Ty) (body : ℕ) where
  pub fresh_other : is_fresh t ≡ false → AnswersPrefix j k ProcNew (Freshes t) body None
  fresh_other h = record { at = λ ss e p s l ps f. generated t h (fresh_parts f).0 }

  pub fresh_bad : ((e : Env) → Stands j e → GoodTy [] e t → ⊥) → AnswersPrefix j k ProcNew (Freshes t) body None
  fresh_bad h = record { at = λ ss e p s l ps f. h e s (fresh_parts f).1 }

  pub fresh_fits : {a : Asked} → is_fresh t ≡ true → ((e : Env) → Stands j e → GoodTy [] e t) → BeginsWalk j k body (λ e. t ∷ []) a → AnswersPrefix j k ProcNew (Freshes t) body (Some (OnePremise a))
  fresh_fits h g x = record {
    at = λ ss e p s l. (of_process (extended e t) (opened e p) ∷ [], fits_new (fresh_sound t h) (g e s), process_open (one j k ss e p s x l));
  }

-- two processes
pub par_fits : (j : Numbered) (rule : Rule) (first rest : ℕ) {a b : Asked} → rule ≡ ProcPar → BeginsWalk j j first (λ e. []) a → BeginsWalk j j rest (λ e. []) b → AnswersFork j j rule Pars first rest (Some (TwoPremises a b))
par_fits j rule first rest {a} {b} q x y =
    subst (λ r. AnswersFork j j r Pars first rest (Some (TwoPremises a b))) (sym q) (record { at = λ ss e p r s l o. (of_process e p ∷ (of_process e r ∷ []), fits_par, two_open (same j j ss e p s x l) (same j j ss e r s y o)) })
