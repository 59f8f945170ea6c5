-- The rules that fit a form are its own.
use Rattle.std.proofs.Common.{◌≡◌, refl, ℕ, List, ◌⊎◌, inl, inr, ⊎_elim, None}
use Rattle.spi_term.specs.Term.{Message, Ty, Sends, Stops, Recvs, Serves, Splits, Selects, Decrypts, Checks, Begins, Ends, EndManys, Casts, Freshes, Branches, Pars, Process, leaf, prefix, fork}
use Rattle.spi_rules.specs.Environment.{Env}
use Rattle.spi_rules.specs.declared.rule.Rule.{Rule}
use Rattle.spi_rules.specs.declared.rule.Rule.TheVariants.{ProcStop, ProcOut, ProcIn, ProcRepeat, ProcSplit, ProcSplitUn, ProcMatch, ProcMatchUn, ProcCase, ProcCaseUn, ProcDecrypt, ProcDecryptUn, ProcCheck, ProcCheckUn, ProcBegin, ProcEnd, ProcEndMany, ProcCast, ProcCastUn, ProcNew, ProcPar}
use Rattle.spi_message.specs.Judging.{Numbered}
use Rattle.spi_audit.specs.Fits.{Subject, of_process, plain, Fits, fits_stop, fits_out, fits_in, fits_repeat, fits_split, fits_split_un, fits_match, fits_match_un, fits_case, fits_case_un, fits_decrypt, fits_decrypt_un, fits_check, fits_check_un, fits_begin, fits_end, fits_end_many, fits_cast, fits_cast_un, fits_new, fits_par}
use Rattle.spi_audit.specs.Asked.{AnswersLeaf, AnswersPrefix, AnswersFork}

-- forms without a process
send_rules : {rule : Rule} {env : Env} {m n : Message} {ps : List Subject} → Fits (plain rule) (of_process env (leaf (Sends m n))) ps → rule ≡ ProcOut
send_rules fits_out = refl

pub send_other : (j : Numbered) (rule : Rule) (m n : Message) → (rule ≡ ProcOut → ⊥) → AnswersLeaf j j rule (Sends m n) None
send_other j rule m n d = record { at = λ ss e s ps f. d (send_rules f) }

stop_rules : {rule : Rule} {env : Env} {ps : List Subject} → Fits (plain rule) (of_process env (leaf Stops)) ps → rule ≡ ProcStop
stop_rules fits_stop = refl

pub stop_other : (j : Numbered) (rule : Rule) → (rule ≡ ProcStop → ⊥) → AnswersLeaf j j rule Stops None
stop_other j rule d = record { at = λ ss e s ps f. d (stop_rules f) }

-- forms with one
recv_rules : {rule : Rule} {env : Env} {m : Message} {t : Ty} {p : Process} {ps : List Subject} → Fits (plain rule) (of_process env (prefix (Recvs m t) p)) ps → rule ≡ ProcIn
recv_rules fits_in = refl

pub recv_other : (j : Numbered) (rule : Rule) (m : Message) (t : Ty) (body : ℕ) → (rule ≡ ProcIn → ⊥) → AnswersPrefix j j rule (Recvs m t) body None
recv_other j rule m t body d = record { at = λ ss e p s l ps f. d (recv_rules f) }

serve_rules : {rule : Rule} {env : Env} {m : Message} {t : Ty} {p : Process} {ps : List Subject} → Fits (plain rule) (of_process env (prefix (Serves m t) p)) ps → rule ≡ ProcRepeat
serve_rules fits_repeat = refl

pub serve_other : (j : Numbered) (rule : Rule) (m : Message) (t : Ty) (body : ℕ) → (rule ≡ ProcRepeat → ⊥) → AnswersPrefix j j rule (Serves m t) body None
serve_other j rule m t body d = record { at = λ ss e p s l ps f. d (serve_rules f) }

split_rules : {rule : Rule} {env : Env} {m : Message} {t u : Ty} {p : Process} {ps : List Subject} → Fits (plain rule) (of_process env (prefix (Splits m t u) p)) ps → (rule ≡ ProcSplit) ⊎ (rule ≡ ProcSplitUn)
split_rules (fits_split g) = inl refl
split_rules fits_split_un = inr refl

pub split_other : (j : Numbered) (rule : Rule) (m : Message) (t u : Ty) (body : ℕ) → (rule ≡ ProcSplit → ⊥) → (rule ≡ ProcSplitUn → ⊥) → AnswersPrefix j j rule (Splits m t u) body None
split_other j rule m t u body d h = record { at = λ ss e p s l ps f. ⊎_elim d h (split_rules f) }

select_rules : {rule : Rule} {env : Env} {m n : Message} {t u : Ty} {p : Process} {ps : List Subject} → Fits (plain rule) (of_process env (prefix (Selects m t n u) p)) ps → (rule ≡ ProcMatch) ⊎ (rule ≡ ProcMatchUn)
select_rules (fits_match g) = inl refl
select_rules fits_match_un = inr refl

pub select_other : (j : Numbered) (rule : Rule) (m n : Message) (t u : Ty) (body : ℕ) → (rule ≡ ProcMatch → ⊥) → (rule ≡ ProcMatchUn → ⊥) → AnswersPrefix j j rule (Selects m t n u) body None
select_other j rule m n t u body d h = record { at = λ ss e p s l ps f. ⊎_elim d h (select_rules f) }

decrypt_rules : {rule : Rule} {env : Env} {m n : Message} {t : Ty} {p : Process} {ps : List Subject} → Fits (plain rule) (of_process env (prefix (Decrypts m t n) p)) ps → (rule ≡ ProcDecrypt) ⊎ (rule ≡ ProcDecryptUn)
decrypt_rules (fits_decrypt g) = inl refl
decrypt_rules fits_decrypt_un = inr refl

pub decrypt_other : (j : Numbered) (rule : Rule) (m n : Message) (t : Ty) (body : ℕ) → (rule ≡ ProcDecrypt → ⊥) → (rule ≡ ProcDecryptUn → ⊥) → AnswersPrefix j j rule (Decrypts m t n) body None
decrypt_other j rule m n t body d h = record { at = λ ss e p s l ps f. ⊎_elim d h (decrypt_rules f) }

check_rules : {rule : Rule} {env : Env} {m n : Message} {p : Process} {ps : List Subject} → Fits (plain rule) (of_process env (prefix (Checks m n) p)) ps → (rule ≡ ProcCheck) ⊎ (rule ≡ ProcCheckUn)
check_rules (fits_check g) = inl refl
check_rules fits_check_un = inr refl

pub check_other : (j : Numbered) (rule : Rule) (m n : Message) (body : ℕ) → (rule ≡ ProcCheck → ⊥) → (rule ≡ ProcCheckUn → ⊥) → AnswersPrefix j j rule (Checks m n) body None
check_other j rule m n body d h = record { at = λ ss e p s l ps f. ⊎_elim d h (check_rules f) }

begin_rules : {rule : Rule} {env : Env} {m : Message} {p : Process} {ps : List Subject} → Fits (plain rule) (of_process env (prefix (Begins m) p)) ps → rule ≡ ProcBegin
begin_rules (fits_begin g) = refl

pub begin_other : (j : Numbered) (rule : Rule) (m : Message) (body : ℕ) → (rule ≡ ProcBegin → ⊥) → AnswersPrefix j j rule (Begins m) body None
begin_other j rule m body d = record { at = λ ss e p s l ps f. d (begin_rules f) }

end_rules : {rule : Rule} {env : Env} {m : Message} {p : Process} {ps : List Subject} → Fits (plain rule) (of_process env (prefix (Ends m) p)) ps → rule ≡ ProcEnd
end_rules (fits_end g) = refl

pub end_other : (j : Numbered) (rule : Rule) (m : Message) (body : ℕ) → (rule ≡ ProcEnd → ⊥) → AnswersPrefix j j rule (Ends m) body None
end_other j rule m body d = record { at = λ ss e p s l ps f. d (end_rules f) }

end_many_rules : {rule : Rule} {env : Env} {m : Message} {p : Process} {ps : List Subject} → Fits (plain rule) (of_process env (prefix (EndManys m) p)) ps → rule ≡ ProcEndMany
end_many_rules (fits_end_many g) = refl

pub end_many_other : (j : Numbered) (rule : Rule) (m : Message) (body : ℕ) → (rule ≡ ProcEndMany → ⊥) → AnswersPrefix j j rule (EndManys m) body None
end_many_other j rule m body d = record { at = λ ss e p s l ps f. d (end_many_rules f) }

cast_rules : {rule : Rule} {env : Env} {m : Message} {t : Ty} {p : Process} {ps : List Subject} → Fits (plain rule) (of_process env (prefix (Casts m t) p)) ps → (rule ≡ ProcCast) ⊎ (rule ≡ ProcCastUn)
cast_rules (fits_cast g) = inl refl
cast_rules fits_cast_un = inr refl

pub cast_other : (j : Numbered) (rule : Rule) (m : Message) (t : Ty) (body : ℕ) → (rule ≡ ProcCast → ⊥) → (rule ≡ ProcCastUn → ⊥) → AnswersPrefix j j rule (Casts m t) body None
cast_other j rule m t body d h = record { at = λ ss e p s l ps f. ⊎_elim d h (cast_rules f) }

fresh_rules : {rule : Rule} {env : Env} {t : Ty} {p : Process} {ps : List Subject} → Fits (plain rule) (of_process env (prefix (Freshes t) p)) ps → rule ≡ ProcNew
fresh_rules (fits_new g h) = refl

pub fresh_other : (j : Numbered) (rule : Rule) (t : Ty) (body : ℕ) → (rule ≡ ProcNew → ⊥) → AnswersPrefix j j rule (Freshes t) body None
fresh_other j rule t body d = record { at = λ ss e p s l ps f. d (fresh_rules f) }

-- forms with two
branch_rules : {rule : Rule} {env : Env} {m : Message} {t u : Ty} {p q : Process} {ps : List Subject} → Fits (plain rule) (of_process env (fork (Branches m t u) p q)) ps → (rule ≡ ProcCase) ⊎ (rule ≡ ProcCaseUn)
branch_rules (fits_case g h) = inl refl
branch_rules fits_case_un = inr refl

pub branch_other : (j : Numbered) (rule : Rule) (m : Message) (t u : Ty) (first rest : ℕ) → (rule ≡ ProcCase → ⊥) → (rule ≡ ProcCaseUn → ⊥) → AnswersFork j j rule (Branches m t u) first rest None
branch_other j rule m t u first rest d h = record { at = λ ss e p q s l k ps f. ⊎_elim d h (branch_rules f) }

par_rules : {rule : Rule} {env : Env} {p q : Process} {ps : List Subject} → Fits (plain rule) (of_process env (fork Pars p q)) ps → rule ≡ ProcPar
par_rules fits_par = refl

pub par_other : (j : Numbered) (rule : Rule) (first rest : ℕ) → (rule ≡ ProcPar → ⊥) → AnswersFork j j rule Pars first rest None
par_other j rule first rest d = record { at = λ ss e p q s l k ps f. d (par_rules f) }
