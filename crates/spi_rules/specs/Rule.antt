-- The rules by name: how each is spelled, and how many premises with a derivation of their own it has.
use Rattle.std.specs.Prelude.{ℕ, List, [], ◌∷◌, Option, Some, None, codes, if◌then◌else◌}
use Rattle.std.specs.Str.{bytes_eq}
use Rattle.spi_rules.specs.declared.rule.Rule.{Rule}
use Rattle.spi_rules.specs.declared.rule.Rule.TheVariants.{MsgName, MsgUnit, MsgUnitUn, MsgPair, MsgPairUn, MsgInl, MsgInlUn, MsgInr, MsgInrUn, MsgEnc, MsgEncUn, MsgHash, ProcStop, ProcOut, ProcIn, ProcRepeat, ProcSplit, ProcSplitUn, ProcMatch, ProcMatchUn, ProcCase, ProcCaseUn, ProcDecrypt, ProcDecryptUn, ProcCheck, ProcCheckUn, ProcBegin, ProcEnd, ProcEndMany, ProcCast, ProcCastUn, ProcNew, ProcPar, ProcSub}

abbrev pub arity : Rule → ℕ
arity MsgName = 0
arity MsgUnit = 0
arity MsgUnitUn = 0
arity MsgPair = 2
arity MsgPairUn = 2
arity MsgInl = 1
arity MsgInlUn = 1
arity MsgInr = 1
arity MsgInrUn = 1
arity MsgEnc = 1
arity MsgEncUn = 2
arity MsgHash = 0
arity ProcStop = 0
arity ProcOut = 2
arity ProcIn = 2
arity ProcRepeat = 2
arity ProcSplit = 2
arity ProcSplitUn = 2
arity ProcMatch = 3
arity ProcMatchUn = 3
arity ProcCase = 3
arity ProcCaseUn = 3
arity ProcDecrypt = 3
arity ProcDecryptUn = 3
arity ProcCheck = 2
arity ProcCheckUn = 3
arity ProcBegin = 1
arity ProcEnd = 1
arity ProcEndMany = 1
arity ProcCast = 2
arity ProcCastUn = 2
arity ProcNew = 1
arity ProcPar = 2
arity ProcSub = 1

abbrev pub rule_spelled : Rule → List ℕ
rule_spelled MsgName = codes "MsgName"
rule_spelled MsgUnit = codes "MsgUnit"
rule_spelled MsgUnitUn = codes "MsgUnitUn"
rule_spelled MsgPair = codes "MsgPair"
rule_spelled MsgPairUn = codes "MsgPairUn"
rule_spelled MsgInl = codes "MsgInl"
rule_spelled MsgInlUn = codes "MsgInlUn"
rule_spelled MsgInr = codes "MsgInr"
rule_spelled MsgInrUn = codes "MsgInrUn"
rule_spelled MsgEnc = codes "MsgEnc"
rule_spelled MsgEncUn = codes "MsgEncUn"
rule_spelled MsgHash = codes "MsgHash"
rule_spelled ProcStop = codes "ProcStop"
rule_spelled ProcOut = codes "ProcOut"
rule_spelled ProcIn = codes "ProcIn"
rule_spelled ProcRepeat = codes "ProcRepeat"
rule_spelled ProcSplit = codes "ProcSplit"
rule_spelled ProcSplitUn = codes "ProcSplitUn"
rule_spelled ProcMatch = codes "ProcMatch"
rule_spelled ProcMatchUn = codes "ProcMatchUn"
rule_spelled ProcCase = codes "ProcCase"
rule_spelled ProcCaseUn = codes "ProcCaseUn"
rule_spelled ProcDecrypt = codes "ProcDecrypt"
rule_spelled ProcDecryptUn = codes "ProcDecryptUn"
rule_spelled ProcCheck = codes "ProcCheck"
rule_spelled ProcCheckUn = codes "ProcCheckUn"
rule_spelled ProcBegin = codes "ProcBegin"
rule_spelled ProcEnd = codes "ProcEnd"
rule_spelled ProcEndMany = codes "ProcEndMany"
rule_spelled ProcCast = codes "ProcCast"
rule_spelled ProcCastUn = codes "ProcCastUn"
rule_spelled ProcNew = codes "ProcNew"
rule_spelled ProcPar = codes "ProcPar"
rule_spelled ProcSub = codes "ProcSub"

-- the first of the rules with this name
abbrev pub named : List Rule → List ℕ → Option Rule
named [] word = None
named (r ∷ rs) word = if bytes_eq (rule_spelled r) word then Some r else named rs word
