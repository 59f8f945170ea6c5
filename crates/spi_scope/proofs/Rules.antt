-- The rule of a word, by the words of the rules.
use Rattle.std.proofs.Common.{◌≡◌, ℕ, List, refl, sym, ap, ◌∙◌}
use Rattle.std.specs.Prelude.{Option, Some, None}
use Rattle.spi_rules.specs.declared.rule.Rule.{Rule}
use Rattle.spi_rules.specs.declared.rule.Rule.TheVariants.{MsgName, MsgUnit, MsgUnitUn, MsgPair, MsgPairUn, MsgInl, MsgInlUn, MsgInr, MsgInrUn, MsgEnc, MsgEncUn, MsgHash, ProcStop, ProcOut, ProcIn, ProcRepeat, ProcSplit, ProcSplitUn, ProcMatch, ProcMatchUn, ProcCase, ProcCaseUn, ProcDecrypt, ProcDecryptUn, ProcCheck, ProcCheckUn, ProcBegin, ProcEnd, ProcEndMany, ProcCast, ProcCastUn, ProcNew, ProcPar, ProcSub}
use Rattle.spi_rules.specs.Rule.{rule_spelled, named}
use Rattle.spi_rules.proofs.Named.{named_spelled}
use Rattle.spi_scope.specs.Parts.{every_rule, known_rule, rule_named}

each_known : (r : Rule) → named every_rule (rule_spelled r) ≡ Some r
each_known MsgName = refl
each_known MsgUnit = refl
each_known MsgUnitUn = refl
each_known MsgPair = refl
each_known MsgPairUn = refl
each_known MsgInl = refl
each_known MsgInlUn = refl
each_known MsgInr = refl
each_known MsgInrUn = refl
each_known MsgEnc = refl
each_known MsgEncUn = refl
each_known MsgHash = refl
each_known ProcStop = refl
each_known ProcOut = refl
each_known ProcIn = refl
each_known ProcRepeat = refl
each_known ProcSplit = refl
each_known ProcSplitUn = refl
each_known ProcMatch = refl
each_known ProcMatchUn = refl
each_known ProcCase = refl
each_known ProcCaseUn = refl
each_known ProcDecrypt = refl
each_known ProcDecryptUn = refl
each_known ProcCheck = refl
each_known ProcCheckUn = refl
each_known ProcBegin = refl
each_known ProcEnd = refl
each_known ProcEndMany = refl
each_known ProcCast = refl
each_known ProcCastUn = refl
each_known ProcNew = refl
each_known ProcPar = refl
each_known ProcSub = refl

pub rule_found : (r : Rule) (w : List ℕ) → rule_spelled r ≡ w → r ≡ rule_named w
rule_found r w e = sym (ap rule_named (sym e) ∙ ap known_rule (each_known r))

pub no_rule : (w : List ℕ) → ((r : Rule) → rule_spelled r ≡ w → ⊥) → MsgUnit ≡ rule_named w
no_rule w h = by (named every_rule w) (λ r e. named_spelled every_rule w r e)
  where
    by : (o : Option Rule) → ((r : Rule) → o ≡ Some r → rule_spelled r ≡ w) → MsgUnit ≡ known_rule o
    by None f = refl
    by (Some r) f = absurd (h r (f r refl))
