-- Typing derivations: the rule uses of a typing, in preorder.
use Rattle.std.specs.Prelude.{◌≡◌, List, [], ◌∷◌, ◌++◌, length, Option, Some, None}
use Rattle.spi_rules.specs.Environment.{Env}
use Rattle.spi_rules.specs.Messages.{HasType, msg_name, msg_unit, msg_unit_un, msg_pair, msg_pair_un, msg_inl, msg_inl_un, msg_inr, msg_inr_un, msg_enc, msg_enc_un, msg_hash, msg_cast}
use Rattle.spi_rules.specs.Processes.{HasEffect, proc_stop, proc_out, proc_in, proc_repeat, proc_split, proc_split_un, proc_match, proc_match_un, proc_case, proc_case_un, proc_decrypt, proc_decrypt_un, proc_check, proc_check_un, proc_begin, proc_end, proc_end_many, proc_cast, proc_cast_un, proc_new, proc_par, proc_sub}
use Rattle.spi_rules.specs.declared.rule.Rule.{Rule}
use Rattle.spi_rules.specs.declared.rule.Rule.TheVariants.{MsgName, MsgUnit, MsgUnitUn, MsgPair, MsgPairUn, MsgInl, MsgInlUn, MsgInr, MsgInrUn, MsgEnc, MsgEncUn, MsgHash, ProcStop, ProcOut, ProcIn, ProcRepeat, ProcSplit, ProcSplitUn, ProcMatch, ProcMatchUn, ProcCase, ProcCaseUn, ProcDecrypt, ProcDecryptUn, ProcCheck, ProcCheckUn, ProcBegin, ProcEnd, ProcEndMany, ProcCast, ProcCastUn, ProcNew, ProcPar, ProcSub}
use Rattle.spi_term.specs.Counts.{SameEffect}
use Rattle.spi_term.specs.Names.{ProcessOver}
use Rattle.spi_term.specs.Term.{Message, Effect, Ty, Process}

-- P has effect es in env by the rules, and is over as many names as env has
pub record Derivable (env : Env) (p : Process) (es : Effect) : Type 0 where
  pub over : ProcessOver (length env) p
  pub has : HasEffect [] env p es

-- one use of a rule, with the effect that ProcSub writes
pub record RuleUse : Type 0 where
  pub rule : Rule
  pub taken : Option Effect

abbrev pub uses : Rule → List RuleUse → List RuleUse
uses r ds = record { rule = r; taken = None } ∷ ds

-- the rule uses of a message's typing, in preorder
abbrev pub type_uses : {env : Env} {m : Message} {t : Ty} → HasType [] env m t → List RuleUse
type_uses (msg_name a s) = uses MsgName []
type_uses msg_unit = uses MsgUnit []
type_uses msg_unit_un = uses MsgUnitUn []
type_uses (msg_pair h k) = uses MsgPair (type_uses h ++ type_uses k)
type_uses (msg_pair_un h k) = uses MsgPairUn (type_uses h ++ type_uses k)
type_uses (msg_inl h) = uses MsgInl (type_uses h)
type_uses (msg_inl_un h) = uses MsgInlUn (type_uses h)
type_uses (msg_inr h) = uses MsgInr (type_uses h)
type_uses (msg_inr_un h) = uses MsgInrUn (type_uses h)
type_uses (msg_enc h a) = uses MsgEnc (type_uses h)
type_uses (msg_enc_un h k) = uses MsgEncUn (type_uses h ++ type_uses k)
type_uses (msg_hash l) = uses MsgHash []
type_uses (msg_cast i s) = []

-- the rule uses of a process's typing, in preorder
abbrev pub effect_uses : {env : Env} {p : Process} {es : Effect} → HasEffect [] env p es → List RuleUse
effect_uses proc_stop = uses ProcStop []
effect_uses (proc_out h k) = uses ProcOut (type_uses h ++ type_uses k)
effect_uses (proc_in h d a) = uses ProcIn (type_uses h ++ effect_uses d)
effect_uses (proc_repeat h d m a) = uses ProcRepeat (type_uses h ++ effect_uses d)
effect_uses (proc_split h d g a b) = uses ProcSplit (type_uses h ++ effect_uses d)
effect_uses (proc_split_un h d a b) = uses ProcSplitUn (type_uses h ++ effect_uses d)
effect_uses (proc_match h k d g a) = uses ProcMatch (type_uses h ++ (type_uses k ++ effect_uses d))
effect_uses (proc_match_un h k d a) = uses ProcMatchUn (type_uses h ++ (type_uses k ++ effect_uses d))
effect_uses (proc_case h d e g k a b r) = uses ProcCase (type_uses h ++ (effect_uses d ++ effect_uses e))
effect_uses (proc_case_un h d e a b r) = uses ProcCaseUn (type_uses h ++ (effect_uses d ++ effect_uses e))
effect_uses (proc_decrypt h k d g a) = uses ProcDecrypt (type_uses h ++ (type_uses k ++ effect_uses d))
effect_uses (proc_decrypt_un h k d a) = uses ProcDecryptUn (type_uses h ++ (type_uses k ++ effect_uses d))
effect_uses (proc_check h d n s r) = uses ProcCheck (type_uses h ++ effect_uses d)
effect_uses (proc_check_un h k d) = uses ProcCheckUn (type_uses h ++ (type_uses k ++ effect_uses d))
effect_uses (proc_begin d l r) = uses ProcBegin (effect_uses d)
effect_uses (proc_end d l r) = uses ProcEnd (effect_uses d)
effect_uses (proc_end_many d l r) = uses ProcEndMany (effect_uses d)
effect_uses (proc_cast h d g a r) = uses ProcCast (type_uses h ++ effect_uses d)
effect_uses (proc_cast_un h d a) = uses ProcCastUn (type_uses h ++ effect_uses d)
effect_uses (proc_new d i g r a) = uses ProcNew (effect_uses d)
effect_uses (proc_par d e r) = uses ProcPar (effect_uses d ++ effect_uses e)
effect_uses (proc_sub {fs} d w g) = record { rule = ProcSub; taken = Some fs } ∷ effect_uses d

-- a list of rule uses proves that P has effect es in env, up to equal counts
pub record Proves (d : List RuleUse) (env : Env) (p : Process) (es : Effect) : Type 0 where
  pub over : ProcessOver (length env) p
  pub effect : Effect
  pub same : SameEffect effect es
  pub has : HasEffect [] env p effect
  pub are : effect_uses has ≡ d
