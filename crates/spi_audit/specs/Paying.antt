-- The effect of a use of a rule from those of its premises, and where the use pays: where its side conditions on those
-- effects hold.
use Rattle.std.specs.Prelude.{suc, List, [], ◌∷◌, length}
use Rattle.spi_term.specs.Names.{EffectAvoids}
use Rattle.spi_term.specs.Term.{Message, name, ends, checks, many, Effect, Ty, nonce, Process, check, begin, end, end_many, cast}
use Rattle.spi_effect.specs.Effect.{Within, IsSum, IsDifference, IsGreater, AllMany}
use Rattle.spi_rules.specs.Environment.{Env}
use Rattle.spi_rules.specs.Processes.{IsNonce}
use Rattle.spi_rules.specs.Derivations.{RuleUse}
use Rattle.spi_rules.specs.declared.rule.Rule.TheVariants.{ProcStop, ProcOut, ProcIn, ProcRepeat, ProcSplit, ProcSplitUn, ProcMatch, ProcMatchUn, ProcCase, ProcCaseUn, ProcDecrypt, ProcDecryptUn, ProcCheck, ProcCheckUn, ProcBegin, ProcEnd, ProcEndMany, ProcCast, ProcCastUn, ProcNew, ProcPar}
use Rattle.spi_audit.specs.Fits.{Subject, of_message, of_process, plain, subsumed}

-- The effect that a use of a rule has by the table of rules, where its premises have these. What is asked of a message
-- has no effect, and stands in the list as any.
pub data GivesEffects : RuleUse → Subject → List Effect → Effect → Type 0 where
  gives_message : {u : RuleUse} {env : Env} {m : Message} {t : Ty} {es : List Effect}
      → GivesEffects u (of_message env m t) es []
  gives_stop : {env : Env} {p : Process} → GivesEffects (plain ProcStop) (of_process env p) [] []
  gives_out : {env : Env} {p : Process} {a b : Effect}
      → GivesEffects (plain ProcOut) (of_process env p) (a ∷ b ∷ []) []
  gives_in : {env : Env} {p : Process} {a es : Effect}
      → GivesEffects (plain ProcIn) (of_process env p) (a ∷ es ∷ []) es
  gives_repeat : {env : Env} {p : Process} {a es : Effect}
      → GivesEffects (plain ProcRepeat) (of_process env p) (a ∷ es ∷ []) es
  gives_split : {env : Env} {p : Process} {a es : Effect}
      → GivesEffects (plain ProcSplit) (of_process env p) (a ∷ es ∷ []) es
  gives_split_un : {env : Env} {p : Process} {a es : Effect}
      → GivesEffects (plain ProcSplitUn) (of_process env p) (a ∷ es ∷ []) es
  gives_match : {env : Env} {p : Process} {a b es : Effect}
      → GivesEffects (plain ProcMatch) (of_process env p) (a ∷ b ∷ es ∷ []) es
  gives_match_un : {env : Env} {p : Process} {a b es : Effect}
      → GivesEffects (plain ProcMatchUn) (of_process env p) (a ∷ b ∷ es ∷ []) es
  gives_case : {env : Env} {p : Process} {a es fs rs : Effect}
      → IsGreater rs es fs → GivesEffects (plain ProcCase) (of_process env p) (a ∷ es ∷ fs ∷ []) rs
  gives_case_un : {env : Env} {p : Process} {a es fs rs : Effect}
      → IsGreater rs es fs → GivesEffects (plain ProcCaseUn) (of_process env p) (a ∷ es ∷ fs ∷ []) rs
  gives_decrypt : {env : Env} {p : Process} {a b es : Effect}
      → GivesEffects (plain ProcDecrypt) (of_process env p) (a ∷ b ∷ es ∷ []) es
  gives_decrypt_un : {env : Env} {p : Process} {a b es : Effect}
      → GivesEffects (plain ProcDecryptUn) (of_process env p) (a ∷ b ∷ es ∷ []) es
  gives_check : {env : Env} {m n : Message} {p : Process} {a es fs ds rs : Effect}
      → IsNonce [] env n fs → IsDifference ds es fs → IsSum rs ds (checks m ∷ [])
      → GivesEffects (plain ProcCheck) (of_process env (check m n p)) (a ∷ es ∷ []) rs
  gives_check_un : {env : Env} {p : Process} {a b es : Effect}
      → GivesEffects (plain ProcCheckUn) (of_process env p) (a ∷ b ∷ es ∷ []) es
  gives_begin : {env : Env} {m : Message} {p : Process} {es rs : Effect}
      → IsDifference rs es (ends m ∷ many m ∷ [])
      → GivesEffects (plain ProcBegin) (of_process env (begin m p)) (es ∷ []) rs
  gives_end : {env : Env} {m : Message} {p : Process} {es rs : Effect}
      → IsSum rs es (ends m ∷ []) → GivesEffects (plain ProcEnd) (of_process env (end m p)) (es ∷ []) rs
  gives_end_many : {env : Env} {m : Message} {p : Process} {es rs : Effect}
      → IsSum rs es (many m ∷ [])
      → GivesEffects (plain ProcEndMany) (of_process env (end_many m p)) (es ∷ []) rs
  gives_cast : {env : Env} {m : Message} {p : Process} {a es fs rs : Effect}
      → IsSum rs es fs → GivesEffects (plain ProcCast) (of_process env (cast m (nonce fs) p)) (a ∷ es ∷ []) rs
  gives_cast_un : {env : Env} {p : Process} {a es : Effect}
      → GivesEffects (plain ProcCastUn) (of_process env p) (a ∷ es ∷ []) es
  gives_new : {env : Env} {p : Process} {es rs : Effect}
      → IsDifference rs es (checks (name (length env)) ∷ [])
      → GivesEffects (plain ProcNew) (of_process env p) (es ∷ []) rs
  gives_par : {env : Env} {p : Process} {es fs rs : Effect}
      → IsSum rs es fs → GivesEffects (plain ProcPar) (of_process env p) (es ∷ fs ∷ []) rs
  gives_sub : {env : Env} {p : Process} {es fs : Effect}
      → GivesEffects (subsumed fs) (of_process env p) (es ∷ []) fs

-- A use of a rule pays where its premises have these effects. The rules of messages and those in the last rows ask nothing
-- of effects.
pub data PaysByUse : RuleUse → Subject → List Effect → Type 0 where
  pays_in : {env : Env} {p : Process} {a es : Effect}
      → EffectAvoids (length env) es → PaysByUse (plain ProcIn) (of_process env p) (a ∷ es ∷ [])
  pays_repeat : {env : Env} {p : Process} {a es : Effect}
      → AllMany es → EffectAvoids (length env) es
      → PaysByUse (plain ProcRepeat) (of_process env p) (a ∷ es ∷ [])
  pays_split : {env : Env} {p : Process} {a es : Effect}
      → EffectAvoids (length env) es → EffectAvoids (suc (length env)) es
      → PaysByUse (plain ProcSplit) (of_process env p) (a ∷ es ∷ [])
  pays_split_un : {env : Env} {p : Process} {a es : Effect}
      → EffectAvoids (length env) es → EffectAvoids (suc (length env)) es
      → PaysByUse (plain ProcSplitUn) (of_process env p) (a ∷ es ∷ [])
  pays_match : {env : Env} {p : Process} {a b es : Effect}
      → EffectAvoids (length env) es → PaysByUse (plain ProcMatch) (of_process env p) (a ∷ b ∷ es ∷ [])
  pays_match_un : {env : Env} {p : Process} {a b es : Effect}
      → EffectAvoids (length env) es → PaysByUse (plain ProcMatchUn) (of_process env p) (a ∷ b ∷ es ∷ [])
  pays_case : {env : Env} {p : Process} {a es fs : Effect}
      → EffectAvoids (length env) es → EffectAvoids (length env) fs
      → PaysByUse (plain ProcCase) (of_process env p) (a ∷ es ∷ fs ∷ [])
  pays_case_un : {env : Env} {p : Process} {a es fs : Effect}
      → EffectAvoids (length env) es → EffectAvoids (length env) fs
      → PaysByUse (plain ProcCaseUn) (of_process env p) (a ∷ es ∷ fs ∷ [])
  pays_decrypt : {env : Env} {p : Process} {a b es : Effect}
      → EffectAvoids (length env) es → PaysByUse (plain ProcDecrypt) (of_process env p) (a ∷ b ∷ es ∷ [])
  pays_decrypt_un : {env : Env} {p : Process} {a b es : Effect}
      → EffectAvoids (length env) es → PaysByUse (plain ProcDecryptUn) (of_process env p) (a ∷ b ∷ es ∷ [])
  pays_cast : {env : Env} {p : Process} {a es : Effect}
      → EffectAvoids (length env) es → PaysByUse (plain ProcCast) (of_process env p) (a ∷ es ∷ [])
  pays_cast_un : {env : Env} {p : Process} {a es : Effect}
      → EffectAvoids (length env) es → PaysByUse (plain ProcCastUn) (of_process env p) (a ∷ es ∷ [])
  pays_new : {env : Env} {p : Process} {es rs : Effect}
      → IsDifference rs es (checks (name (length env)) ∷ []) → EffectAvoids (length env) rs
      → PaysByUse (plain ProcNew) (of_process env p) (es ∷ [])
  pays_sub : {env : Env} {p : Process} {es fs : Effect} → Within es fs
      → PaysByUse (subsumed fs) (of_process env p) (es ∷ [])
  pays_message : {u : RuleUse} {env : Env} {m : Message} {t : Ty} {es : List Effect}
      → PaysByUse u (of_message env m t) es
  pays_stop : {env : Env} {p : Process} {es : List Effect} → PaysByUse (plain ProcStop) (of_process env p) es
  pays_out : {env : Env} {p : Process} {es : List Effect} → PaysByUse (plain ProcOut) (of_process env p) es
  pays_check : {env : Env} {p : Process} {es : List Effect}
      → PaysByUse (plain ProcCheck) (of_process env p) es
  pays_check_un : {env : Env} {p : Process} {es : List Effect}
      → PaysByUse (plain ProcCheckUn) (of_process env p) es
  pays_begin : {env : Env} {p : Process} {es : List Effect}
      → PaysByUse (plain ProcBegin) (of_process env p) es
  pays_end : {env : Env} {p : Process} {es : List Effect} → PaysByUse (plain ProcEnd) (of_process env p) es
  pays_end_many : {env : Env} {p : Process} {es : List Effect}
      → PaysByUse (plain ProcEndMany) (of_process env p) es
  pays_par : {env : Env} {p : Process} {es : List Effect} → PaysByUse (plain ProcPar) (of_process env p) es
