-- Where a use of a rule fits: what it is asked of has the rule's form, and each side condition holds that doesn't speak
-- of the effects of its premises. A use that fits asks further subjects of its premises, in their order.
use Rattle.std.specs.Prelude.{ℕ, List, [], ◌∷◌, Some, None}
use Rattle.spi_term.specs.Lists.{At}
use Rattle.spi_term.specs.SameTy.{SameTy}
use Rattle.spi_term.specs.Substitution.{ty_put}
use Rattle.spi_term.specs.Term.{Message, name, unit, pair, in_left, in_right, enc, hash, Effect, Ty, un, unit_ty, pair_ty, sum_ty, key, nonce, Process, send, recv, serve, split, select, branch, decrypt, check, begin, end, end_many, cast, fresh, par, stop}
use Rattle.spi_rules.specs.Environment.{Env, extended, opened, opened_two, opened_ty}
use Rattle.spi_rules.specs.Messages.{IsLabel}
use Rattle.spi_rules.specs.Good.{GoodEffect, GoodTy}
use Rattle.spi_rules.specs.Processes.{IsNonce, IsGenerative}
use Rattle.spi_rules.specs.Derivations.{RuleUse}
use Rattle.spi_rules.specs.declared.rule.Rule.{Rule}
use Rattle.spi_rules.specs.declared.rule.Rule.TheVariants.{MsgName, MsgUnit, MsgUnitUn, MsgPair, MsgPairUn, MsgInl, MsgInlUn, MsgInr, MsgInrUn, MsgEnc, MsgEncUn, MsgHash, ProcStop, ProcOut, ProcIn, ProcRepeat, ProcSplit, ProcSplitUn, ProcMatch, ProcMatchUn, ProcCase, ProcCaseUn, ProcDecrypt, ProcDecryptUn, ProcCheck, ProcCheckUn, ProcBegin, ProcEnd, ProcEndMany, ProcCast, ProcCastUn, ProcNew, ProcPar, ProcSub}

-- what a use is asked of: that a message has a type, or which effect a process has
pub data Subject : Type 0 where
  of_message : (env : Env) (m : Message) (t : Ty) → Subject
  of_process : (env : Env) (p : Process) → Subject

-- a use of a rule that writes no effect, and one of ProcSub
abbrev pub plain : Rule → RuleUse
plain r = record { rule = r; taken = None }

abbrev pub subsumed : Effect → RuleUse
subsumed fs = record { rule = ProcSub; taken = Some fs }

pub data Fits : RuleUse → Subject → List Subject → Type 0 where
  fits_name : {env : Env} {x : ℕ} {s t : Ty} → At env x s → SameTy s t
      → Fits (plain MsgName) (of_message env (name x) t) []
  fits_unit : {env : Env} → Fits (plain MsgUnit) (of_message env unit unit_ty) []
  fits_unit_un : {env : Env} → Fits (plain MsgUnitUn) (of_message env unit un) []
  fits_pair : {env : Env} {m n : Message} {t u : Ty}
      → Fits (plain MsgPair) (of_message env (pair m n) (pair_ty t u))
      (of_message env m t ∷ of_message env n (ty_put m u) ∷ [])
  fits_pair_un : {env : Env} {m n : Message}
      → Fits (plain MsgPairUn) (of_message env (pair m n) un) (of_message env m un ∷ of_message env n un ∷ [])
  fits_inl : {env : Env} {m : Message} {t u : Ty}
      → Fits (plain MsgInl) (of_message env (in_left m) (sum_ty t u)) (of_message env m t ∷ [])
  fits_inl_un : {env : Env} {m : Message}
      → Fits (plain MsgInlUn) (of_message env (in_left m) un) (of_message env m un ∷ [])
  fits_inr : {env : Env} {m : Message} {t u : Ty}
      → Fits (plain MsgInr) (of_message env (in_right m) (sum_ty t u)) (of_message env m u ∷ [])
  fits_inr_un : {env : Env} {m : Message}
      → Fits (plain MsgInrUn) (of_message env (in_right m) un) (of_message env m un ∷ [])
  fits_enc : {env : Env} {m : Message} {x : ℕ} {t : Ty}
      → At env x (key t) → Fits (plain MsgEnc) (of_message env (enc m (name x)) un) (of_message env m t ∷ [])
  fits_enc_un : {env : Env} {m n : Message}
      → Fits (plain MsgEncUn) (of_message env (enc m n) un) (of_message env m un ∷ of_message env n un ∷ [])
  fits_hash : {env : Env} {m : Message} → IsLabel [] env m
      → Fits (plain MsgHash) (of_message env (hash m) un) []
  fits_stop : {env : Env} → Fits (plain ProcStop) (of_process env stop) []
  fits_out : {env : Env} {m n : Message}
      → Fits (plain ProcOut) (of_process env (send m n)) (of_message env m un ∷ of_message env n un ∷ [])
  fits_in : {env : Env} {m : Message} {p : Process}
      → Fits (plain ProcIn) (of_process env (recv m un p))
      (of_message env m un ∷ of_process (extended env un) (opened env p) ∷ [])
  fits_repeat : {env : Env} {m : Message} {p : Process}
      → Fits (plain ProcRepeat) (of_process env (serve m un p))
      (of_message env m un ∷ of_process (extended env un) (opened env p) ∷ [])
  fits_split : {env : Env} {m : Message} {t u : Ty} {p : Process}
      → GoodTy [] env (pair_ty t u)
      → Fits (plain ProcSplit) (of_process env (split m t u p))
      (of_message env m (pair_ty t u)
      ∷ of_process (extended (extended env t) (opened_ty env u)) (opened_two env p) ∷ [])
  fits_split_un : {env : Env} {m : Message} {p : Process}
      → Fits (plain ProcSplitUn) (of_process env (split m un un p))
      (of_message env m un ∷ of_process (extended (extended env un) un) (opened_two env p) ∷ [])
  fits_match : {env : Env} {m n : Message} {t u : Ty} {p : Process}
      → GoodTy [] env (pair_ty t u)
      → Fits (plain ProcMatch) (of_process env (select m t n u p))
      (of_message env m (pair_ty t u) ∷ of_message env n t
      ∷ of_process (extended env (ty_put n u)) (opened env p) ∷ [])
  fits_match_un : {env : Env} {m n : Message} {p : Process}
      → Fits (plain ProcMatchUn) (of_process env (select m un n un p))
      (of_message env m un ∷ of_message env n un
      ∷ of_process (extended env un) (opened env p) ∷ [])
  fits_case : {env : Env} {m : Message} {t u : Ty} {p q : Process}
      → GoodTy [] env t → GoodTy [] env u
      → Fits (plain ProcCase) (of_process env (branch m t p u q))
      (of_message env m (sum_ty t u) ∷ of_process (extended env t) (opened env p)
      ∷ of_process (extended env u) (opened env q) ∷ [])
  fits_case_un : {env : Env} {m : Message} {p q : Process}
      → Fits (plain ProcCaseUn) (of_process env (branch m un p un q))
      (of_message env m un ∷ of_process (extended env un) (opened env p)
      ∷ of_process (extended env un) (opened env q) ∷ [])
  fits_decrypt : {env : Env} {m n : Message} {t : Ty} {p : Process}
      → GoodTy [] env t
      → Fits (plain ProcDecrypt) (of_process env (decrypt m t n p))
      (of_message env m un ∷ of_message env n (key t)
      ∷ of_process (extended env t) (opened env p) ∷ [])
  fits_decrypt_un : {env : Env} {m n : Message} {p : Process}
      → Fits (plain ProcDecryptUn) (of_process env (decrypt m un n p))
      (of_message env m un ∷ of_message env n un
      ∷ of_process (extended env un) (opened env p) ∷ [])
  fits_check : {env : Env} {m n : Message} {p : Process} {fs : Effect}
      → IsNonce [] env n fs
      → Fits (plain ProcCheck) (of_process env (check m n p)) (of_message env m un ∷ of_process env p ∷ [])
  fits_check_un : {env : Env} {m n : Message} {p : Process}
      → Fits (plain ProcCheckUn) (of_process env (check m n p))
      (of_message env m un ∷ of_message env n un ∷ of_process env p ∷ [])
  fits_begin : {env : Env} {m : Message} {p : Process}
      → IsLabel [] env m → Fits (plain ProcBegin) (of_process env (begin m p)) (of_process env p ∷ [])
  fits_end : {env : Env} {m : Message} {p : Process}
      → IsLabel [] env m → Fits (plain ProcEnd) (of_process env (end m p)) (of_process env p ∷ [])
  fits_end_many : {env : Env} {m : Message} {p : Process}
      → IsLabel [] env m → Fits (plain ProcEndMany) (of_process env (end_many m p)) (of_process env p ∷ [])
  fits_cast : {env : Env} {m : Message} {p : Process} {fs : Effect}
      → GoodTy [] env (nonce fs)
      → Fits (plain ProcCast) (of_process env (cast m (nonce fs) p))
      (of_message env m un ∷ of_process (extended env (nonce fs)) (opened env p) ∷ [])
  fits_cast_un : {env : Env} {m : Message} {p : Process}
      → Fits (plain ProcCastUn) (of_process env (cast m un p))
      (of_message env m un ∷ of_process (extended env un) (opened env p) ∷ [])
  fits_new : {env : Env} {t : Ty} {p : Process}
      → IsGenerative t → GoodTy [] env t
      → Fits (plain ProcNew) (of_process env (fresh t p))
      (of_process (extended env t) (opened env p) ∷ [])
  fits_par : {env : Env} {p q : Process}
      → Fits (plain ProcPar) (of_process env (par p q)) (of_process env p ∷ of_process env q ∷ [])
  fits_sub : {env : Env} {p : Process} {fs : Effect}
      → GoodEffect [] env fs → Fits (subsumed fs) (of_process env p) (of_process env p ∷ [])
