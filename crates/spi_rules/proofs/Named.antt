-- Each rule is found by its name.
use Rattle.std.proofs.Common.{◌≡◌, ℕ, List, [], ◌∷◌, refl, sym, ◌∙◌, ap, inl, inr}
use Rattle.std.proofs.lemmas.Bool.{cases_Bool, cond-true, cond-false}
use Rattle.std.proofs.lemmas.Slice.Eq.{bytes_eq-Decides}
use Rattle.std.specs.Prelude.{Some}
use Rattle.std.specs.Str.{bytes_eq}
use Rattle.spi_rules.specs.declared.rule.Rule.{Rule}
use Rattle.spi_rules.specs.declared.rule.Rule.TheVariants.{MsgName, MsgUnit, MsgUnitUn, MsgPair, MsgPairUn, MsgInl, MsgInlUn, MsgInr, MsgInrUn, MsgEnc, MsgEncUn, MsgHash, ProcStop, ProcOut, ProcIn, ProcRepeat, ProcSplit, ProcSplitUn, ProcMatch, ProcMatchUn, ProcCase, ProcCaseUn, ProcDecrypt, ProcDecryptUn, ProcCheck, ProcCheckUn, ProcBegin, ProcEnd, ProcEndMany, ProcCast, ProcCastUn, ProcNew, ProcPar, ProcSub}
use Rattle.spi_rules.specs.Rule.{rule_spelled, named}

abbrev pub rules : List Rule
rules = ProcDecryptUn ∷ MsgName ∷ MsgUnit ∷ MsgUnitUn ∷ MsgPair ∷ MsgPairUn ∷ MsgInl ∷ MsgInlUn ∷ MsgInr ∷ MsgInrUn ∷ MsgEnc ∷ MsgEncUn ∷ MsgHash ∷ ProcStop ∷ ProcOut ∷ ProcIn ∷ ProcRepeat ∷ ProcSplit ∷ ProcSplitUn ∷ ProcMatch ∷ ProcMatchUn ∷ ProcCase ∷ ProcCaseUn ∷ ProcDecrypt ∷ ProcCheck ∷ ProcCheckUn ∷ ProcBegin ∷ ProcEnd ∷ ProcEndMany ∷ ProcCast ∷ ProcCastUn ∷ ProcNew ∷ ProcPar ∷ ProcSub ∷ []

pub each_named : (r : Rule) → named rules (rule_spelled r) ≡ Some r
each_named MsgName = refl
each_named MsgUnit = refl
each_named MsgUnitUn = refl
each_named MsgPair = refl
each_named MsgPairUn = refl
each_named MsgInl = refl
each_named MsgInlUn = refl
each_named MsgInr = refl
each_named MsgInrUn = refl
each_named MsgEnc = refl
each_named MsgEncUn = refl
each_named MsgHash = refl
each_named ProcStop = refl
each_named ProcOut = refl
each_named ProcIn = refl
each_named ProcRepeat = refl
each_named ProcSplit = refl
each_named ProcSplitUn = refl
each_named ProcMatch = refl
each_named ProcMatchUn = refl
each_named ProcCase = refl
each_named ProcCaseUn = refl
each_named ProcDecrypt = refl
each_named ProcDecryptUn = refl
each_named ProcCheck = refl
each_named ProcCheckUn = refl
each_named ProcBegin = refl
each_named ProcEnd = refl
each_named ProcEndMany = refl
each_named ProcCast = refl
each_named ProcCastUn = refl
each_named ProcNew = refl
each_named ProcPar = refl
each_named ProcSub = refl

pub named_spelled : (rs : List Rule) (word : List ℕ) (r : Rule) → named rs word ≡ Some r → rule_spelled r ≡ word
named_spelled [] word r e = absurd (cc)
named_spelled (s ∷ rs) word r e = elim (cases_Bool (bytes_eq (rule_spelled s) word)) [
  | inl here ↦ (let f : Some s ≡ Some r = sym (cond-true (bytes_eq (rule_spelled s) word) (Some s) (named rs word) here) ∙ e in let same : s ≡ r = cc in sym (ap rule_spelled same) ∙ (bytes_eq-Decides (rule_spelled s) word).0 here)
  | inr elsewhere ↦ named_spelled rs word r (sym (cond-false (bytes_eq (rule_spelled s) word) (Some s) (named rs word) elsewhere) ∙ e)
]
