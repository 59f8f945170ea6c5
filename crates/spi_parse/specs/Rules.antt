-- The rules of a version by their words, and how many premises each has.
use Rattle.std.specs.Prelude.{ℕ, Bool, true, false, List, [], ◌∷◌, ◌++◌, Option, Some, None, if◌then◌else◌}
use Rattle.std.specs.Str.{bytes_eq}
use Rattle.spi_rules.specs.declared.rule.Rule.{Rule}
use Rattle.spi_rules.specs.declared.rule.Rule.TheVariants.{MsgName, MsgUnit, MsgUnitUn, MsgPair, MsgPairUn, MsgInl, MsgInlUn, MsgInr, MsgInrUn, MsgEnc, MsgEncUn, ProcStop, ProcOut, ProcIn, ProcRepeat, ProcSplit, ProcSplitUn, ProcMatch, ProcMatchUn, ProcCase, ProcCaseUn, ProcDecrypt, ProcDecryptUn, ProcCheck, ProcCheckUn, ProcBegin, ProcEnd, ProcCast, ProcCastUn, ProcNew, ProcPar, ProcSub, MsgHash, ProcEndMany}
use Rattle.spi_rules.specs.Rule.{arity, rule_spelled, named}

-- the rules of version 1, and those that version 2 has besides
abbrev pub first_rules : List Rule
first_rules =
    MsgName ∷ MsgUnit ∷ MsgUnitUn ∷ MsgPair ∷ MsgPairUn ∷ MsgInl ∷ MsgInlUn ∷ MsgInr
    ∷ MsgInrUn ∷ MsgEnc ∷ MsgEncUn ∷ ProcStop ∷ ProcOut ∷ ProcIn ∷ ProcRepeat ∷ ProcSplit
    ∷ ProcSplitUn ∷ ProcMatch ∷ ProcMatchUn ∷ ProcCase ∷ ProcCaseUn ∷ ProcDecrypt ∷ ProcDecryptUn ∷ ProcCheck
    ∷ ProcCheckUn ∷ ProcBegin ∷ ProcEnd ∷ ProcCast ∷ ProcCastUn ∷ ProcNew ∷ ProcPar ∷ ProcSub ∷ []

abbrev pub later_rules : List Rule
later_rules = MsgHash ∷ ProcEndMany ∷ []

abbrev pub rules_of : Bool → List Rule
rules_of later = if later then first_rules ++ later_rules else first_rules

abbrev pub arity_by : Option Rule → Option ℕ
arity_by None = None
arity_by (Some r) = Some (arity r)

-- how many premises the rule of this word has, where it is one of the version
abbrev pub arity_of : Bool → List ℕ → Option ℕ
arity_of later w = arity_by (named (rules_of later) w)

-- the rule that writes its effect
abbrev pub writes_effect : List ℕ → Bool
writes_effect w = bytes_eq (rule_spelled ProcSub) w

-- the rules that version 1 doesn't have
abbrev pub is_late : Rule → Bool
is_late MsgName = false
is_late MsgUnit = false
is_late MsgUnitUn = false
is_late MsgPair = false
is_late MsgPairUn = false
is_late MsgInl = false
is_late MsgInlUn = false
is_late MsgInr = false
is_late MsgInrUn = false
is_late MsgEnc = false
is_late MsgEncUn = false
is_late ProcStop = false
is_late ProcOut = false
is_late ProcIn = false
is_late ProcRepeat = false
is_late ProcSplit = false
is_late ProcSplitUn = false
is_late ProcMatch = false
is_late ProcMatchUn = false
is_late ProcCase = false
is_late ProcCaseUn = false
is_late ProcDecrypt = false
is_late ProcDecryptUn = false
is_late ProcCheck = false
is_late ProcCheckUn = false
is_late ProcBegin = false
is_late ProcEnd = false
is_late ProcCast = false
is_late ProcCastUn = false
is_late ProcNew = false
is_late ProcPar = false
is_late ProcSub = false
is_late MsgHash = true
is_late ProcEndMany = true
