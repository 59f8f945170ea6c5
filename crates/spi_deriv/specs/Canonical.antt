-- The canonical derivation of a process: without ProcSub, and with a typed rule wherever both it and its Un form have
-- derivations.
use Rattle.std.specs.Prelude.{◌≡◌, ℕ, List, [], length, ⊤}
use Rattle.spi_term.specs.Names.{ProcessOver}
use Rattle.spi_term.specs.Term.{Message, enc, Effect, Ty, un, Process}
use Rattle.spi_rules.specs.Environment.{Env, untrusted}
use Rattle.spi_rules.specs.Messages.{HasType, msg_name, msg_unit, msg_unit_un, msg_pair, msg_pair_un, msg_inl, msg_inl_un, msg_inr, msg_inr_un, msg_enc, msg_enc_un, msg_hash, msg_cast}
use Rattle.spi_rules.specs.Processes.{HasEffect, proc_stop, proc_out, proc_in, proc_repeat, proc_split, proc_split_un, proc_match, proc_match_un, proc_case, proc_case_un, proc_decrypt, proc_decrypt_un, proc_check, proc_check_un, proc_begin, proc_end, proc_end_many, proc_cast, proc_cast_un, proc_new, proc_par, proc_sub}
use Rattle.spi_rules.specs.Derivations.{RuleUse, effect_uses}

-- the last rule of a message's typing at Un is the typed one: of the pairs of a typed rule and its Un form, MsgEnc and
-- MsgEncUn alone can conclude with the same type
abbrev pub IsTypedMessage : {env : Env} {m : Message} {t : Ty} → HasType [] env m t → Type 0
IsTypedMessage (msg_name a s) = ⊥
IsTypedMessage msg_unit = ⊥
IsTypedMessage msg_unit_un = ⊥
IsTypedMessage (msg_pair h k) = ⊥
IsTypedMessage (msg_pair_un h k) = ⊥
IsTypedMessage (msg_inl h) = ⊥
IsTypedMessage (msg_inl_un h) = ⊥
IsTypedMessage (msg_inr h) = ⊥
IsTypedMessage (msg_inr_un h) = ⊥
IsTypedMessage (msg_enc h a) = ⊤
IsTypedMessage (msg_enc_un h k) = ⊥
IsTypedMessage (msg_hash l) = ⊥
IsTypedMessage (msg_cast i s) = ⊥

abbrev pub HasNoTypedMessage : Env → Message → Ty → Type 0
HasNoTypedMessage env m t = (h : HasType [] env m t) → IsTypedMessage h → ⊥

-- a message's typing is canonical
abbrev pub IsCanonicalMessage : {env : Env} {m : Message} {t : Ty} → HasType [] env m t → Type 0
IsCanonicalMessage (msg_name a s) = ⊤
IsCanonicalMessage msg_unit = ⊤
IsCanonicalMessage msg_unit_un = ⊤
IsCanonicalMessage (msg_pair h k) = IsCanonicalMessage h × IsCanonicalMessage k
IsCanonicalMessage (msg_pair_un h k) = IsCanonicalMessage h × IsCanonicalMessage k
IsCanonicalMessage (msg_inl h) = IsCanonicalMessage h
IsCanonicalMessage (msg_inl_un h) = IsCanonicalMessage h
IsCanonicalMessage (msg_inr h) = IsCanonicalMessage h
IsCanonicalMessage (msg_inr_un h) = IsCanonicalMessage h
IsCanonicalMessage (msg_enc h a) = IsCanonicalMessage h
IsCanonicalMessage {env} (msg_enc_un {m} {n} h k) = HasNoTypedMessage env (enc m n) un × IsCanonicalMessage h
    × IsCanonicalMessage k
IsCanonicalMessage (msg_hash l) = ⊤
IsCanonicalMessage (msg_cast i s) = ⊥

-- the last rule of a process's typing is a typed rule with an Un form
abbrev pub IsTypedProcess : {env : Env} {p : Process} {es : Effect} → HasEffect [] env p es → Type 0
IsTypedProcess proc_stop = ⊥
IsTypedProcess (proc_out h k) = ⊥
IsTypedProcess (proc_in h d a) = ⊥
IsTypedProcess (proc_repeat h d m a) = ⊥
IsTypedProcess (proc_split h d g a b) = ⊤
IsTypedProcess (proc_split_un h d a b) = ⊥
IsTypedProcess (proc_match h k d g a) = ⊤
IsTypedProcess (proc_match_un h k d a) = ⊥
IsTypedProcess (proc_case h d e g k a b r) = ⊤
IsTypedProcess (proc_case_un h d e a b r) = ⊥
IsTypedProcess (proc_decrypt h k d g a) = ⊤
IsTypedProcess (proc_decrypt_un h k d a) = ⊥
IsTypedProcess (proc_check h d n s r) = ⊤
IsTypedProcess (proc_check_un h k d) = ⊥
IsTypedProcess (proc_begin d l r) = ⊥
IsTypedProcess (proc_end d l r) = ⊥
IsTypedProcess (proc_end_many d l r) = ⊥
IsTypedProcess (proc_cast h d g a r) = ⊥
IsTypedProcess (proc_cast_un h d a) = ⊥
IsTypedProcess (proc_new d i g r a) = ⊥
IsTypedProcess (proc_par d e r) = ⊥
IsTypedProcess (proc_sub d w g) = ⊥

abbrev pub HasNoTyped : Env → Process → Type 0
HasNoTyped env p = (es : Effect) (d : HasEffect [] env p es) → IsTypedProcess d → ⊥

-- a process's typing is canonical
abbrev pub IsCanonical : {env : Env} {p : Process} {es : Effect} → HasEffect [] env p es → Type 0
IsCanonical proc_stop = ⊤
IsCanonical (proc_out h k) = IsCanonicalMessage h × IsCanonicalMessage k
IsCanonical (proc_in h d a) = IsCanonicalMessage h × IsCanonical d
IsCanonical (proc_repeat h d m a) = IsCanonicalMessage h × IsCanonical d
IsCanonical (proc_split h d g a b) = IsCanonicalMessage h × IsCanonical d
IsCanonical {env} {p} (proc_split_un h d a b) = HasNoTyped env p × IsCanonicalMessage h × IsCanonical d
IsCanonical (proc_match h k d g a) = IsCanonicalMessage h × IsCanonicalMessage k × IsCanonical d
IsCanonical {env} {p} (proc_match_un h k d a) = HasNoTyped env p × IsCanonicalMessage h × IsCanonicalMessage k
    × IsCanonical d
IsCanonical (proc_case h d e g k a b r) = IsCanonicalMessage h × IsCanonical d × IsCanonical e
IsCanonical {env} {p} (proc_case_un h d e a b r) = HasNoTyped env p × IsCanonicalMessage h × IsCanonical d
    × IsCanonical e
IsCanonical (proc_decrypt h k d g a) = IsCanonicalMessage h × IsCanonicalMessage k × IsCanonical d
IsCanonical {env} {p} (proc_decrypt_un h k d a) = HasNoTyped env p × IsCanonicalMessage h
    × IsCanonicalMessage k × IsCanonical d
IsCanonical (proc_check h d n s r) = IsCanonicalMessage h × IsCanonical d
IsCanonical {env} {p} (proc_check_un h k d) = HasNoTyped env p × IsCanonicalMessage h × IsCanonicalMessage k
    × IsCanonical d
IsCanonical (proc_begin d l r) = IsCanonical d
IsCanonical (proc_end d l r) = IsCanonical d
IsCanonical (proc_end_many d l r) = IsCanonical d
IsCanonical (proc_cast h d g a r) = IsCanonicalMessage h × IsCanonical d
IsCanonical (proc_cast_un h d a) = IsCanonicalMessage h × IsCanonical d
IsCanonical (proc_new d i g r a) = IsCanonical d
IsCanonical (proc_par d e r) = IsCanonical d × IsCanonical e
IsCanonical (proc_sub d w g) = ⊥

-- the rule uses are those of a canonical derivation that the process, over k untrusted names, has the empty effect
pub record Canonical (d : List RuleUse) (k : ℕ) (p : Process) : Type 0 where
  pub over : ProcessOver (length (untrusted k)) p
  pub has : HasEffect [] (untrusted k) p []
  pub canonical : IsCanonical has
  pub are : effect_uses has ≡ d
