-- The texts of derivations and schedules are those of their tokens.
use Rattle.std.proofs.Common.{◌≡◌, ℕ, Bool, true, false, List, [], ◌∷◌, ◌++◌, length, codes, Option, None, refl, sym, ◌∙◌, ap, subst, arith, nat_lt, append_assoc}
use Rattle.std.proofs.lemmas.Bool.{ltb-true}
use Rattle.std.specs.Fmt.{decimal}
use Rattle.std.specs.List.{AllByRecursion}
use Rattle.spi_lex.specs.declared.token.Kind.{Kind}
use Rattle.spi_lex.specs.declared.token.Kind.TheVariants as kinds
use Rattle.spi_lex.specs.declared.token.Reserved.TheVariants.{Schedule, Derivation}
use Rattle.spi_lex.specs.declared.token.Mark.TheVariants.{Semicolon}
use Rattle.spi_lex.specs.Words.{version_1, version_2, words_of, word_of}
use Rattle.spi_lex.specs.Writing.{Writes, nothing, blank, token, IsKind}
use Rattle.spi_lex.proofs.Writing.{all_letters, letters_identifier}
use Rattle.spi_rules.specs.declared.rule.Rule.{Rule}
use Rattle.spi_rules.specs.declared.rule.Rule.TheVariants.{MsgName, MsgUnit, MsgUnitUn, MsgPair, MsgPairUn, MsgInl, MsgInlUn, MsgInr, MsgInrUn, MsgEnc, MsgEncUn, MsgHash, ProcStop, ProcOut, ProcIn, ProcRepeat, ProcSplit, ProcSplitUn, ProcMatch, ProcMatchUn, ProcCase, ProcCaseUn, ProcDecrypt, ProcDecryptUn, ProcCheck, ProcCheckUn, ProcBegin, ProcEnd, ProcEndMany, ProcCast, ProcCastUn, ProcNew, ProcPar, ProcSub}
use Rattle.spi_rules.specs.Derivations.{RuleUse}
use Rattle.spi_rules.specs.Rule.{rule_spelled}
use Rattle.spi_run.specs.Reduction.{Step, act, talk}
use Rattle.spi_term.specs.Term.{Effect}
use Rattle.spi_deriv.specs.Text.{taken_text, use_text, uses_text, derivation_text}
use Rattle.spi_spell.specs.Joined.{step_text, steps_text, schedule_text, HasLowPlaces}
use Rattle.spi_spell.proofs.Derived.{rule_words, WriteNoEffect}

-- ---- derivations

-- the name of a rule is no reserved word
rule_word : (r : Rule) → (all_letters (rule_spelled r) ≡ true) × (nat_lt 0 (length (rule_spelled r)) ≡ true) × (nat_lt (length (rule_spelled r)) 256 ≡ true) × (word_of version_1 (rule_spelled r) ≡ None) × (word_of version_2 (rule_spelled r) ≡ None)
rule_word MsgName = (refl, refl, refl, refl, refl)
rule_word MsgUnit = (refl, refl, refl, refl, refl)
rule_word MsgUnitUn = (refl, refl, refl, refl, refl)
rule_word MsgPair = (refl, refl, refl, refl, refl)
rule_word MsgPairUn = (refl, refl, refl, refl, refl)
rule_word MsgInl = (refl, refl, refl, refl, refl)
rule_word MsgInlUn = (refl, refl, refl, refl, refl)
rule_word MsgInr = (refl, refl, refl, refl, refl)
rule_word MsgInrUn = (refl, refl, refl, refl, refl)
rule_word MsgEnc = (refl, refl, refl, refl, refl)
rule_word MsgEncUn = (refl, refl, refl, refl, refl)
rule_word MsgHash = (refl, refl, refl, refl, refl)
rule_word ProcStop = (refl, refl, refl, refl, refl)
rule_word ProcOut = (refl, refl, refl, refl, refl)
rule_word ProcIn = (refl, refl, refl, refl, refl)
rule_word ProcRepeat = (refl, refl, refl, refl, refl)
rule_word ProcSplit = (refl, refl, refl, refl, refl)
rule_word ProcSplitUn = (refl, refl, refl, refl, refl)
rule_word ProcMatch = (refl, refl, refl, refl, refl)
rule_word ProcMatchUn = (refl, refl, refl, refl, refl)
rule_word ProcCase = (refl, refl, refl, refl, refl)
rule_word ProcCaseUn = (refl, refl, refl, refl, refl)
rule_word ProcDecrypt = (refl, refl, refl, refl, refl)
rule_word ProcDecryptUn = (refl, refl, refl, refl, refl)
rule_word ProcCheck = (refl, refl, refl, refl, refl)
rule_word ProcCheckUn = (refl, refl, refl, refl, refl)
rule_word ProcBegin = (refl, refl, refl, refl, refl)
rule_word ProcEnd = (refl, refl, refl, refl, refl)
rule_word ProcEndMany = (refl, refl, refl, refl, refl)
rule_word ProcCast = (refl, refl, refl, refl, refl)
rule_word ProcCastUn = (refl, refl, refl, refl, refl)
rule_word ProcNew = (refl, refl, refl, refl, refl)
rule_word ProcPar = (refl, refl, refl, refl, refl)
rule_word ProcSub = (refl, refl, refl, refl, refl)

none_reserved : (later : Bool) (r : Rule) → word_of (words_of later) (rule_spelled r) ≡ None
none_reserved true r = (rule_word r).4
none_reserved false r = (rule_word r).3

rule_kind : (later : Bool) (r : Rule) → IsKind (words_of later) (kinds.Word (rule_spelled r))
rule_kind later r =
    let w = rule_word r in
    let short = ltb-true (length (rule_spelled r)) 256 w.2 in
    (letters_identifier (rule_spelled r) w.0 (ltb-true 0 (length (rule_spelled r)) w.1), omega arith, none_reserved later r)

rule_kinds : (later : Bool) (us : List RuleUse) → AllByRecursion (IsKind (words_of later)) (rule_words us)
rule_kinds later [] = tt
rule_kinds later (u ∷ us) = (rule_kind later u.rule, rule_kinds later us)

derivation_first : (later : Bool) → IsKind (words_of later) (kinds.Reserved Derivation)
derivation_first true = refl
derivation_first false = refl

pub derivation_kinds : (later : Bool) (us : List RuleUse) → AllByRecursion (IsKind (words_of later)) (kinds.Reserved Derivation ∷ rule_words us)
derivation_kinds later us = (derivation_first later, rule_kinds later us)

uses_write : (us : List RuleUse) → WriteNoEffect us → Writes (rule_words us) (uses_text us)
uses_write [] h = nothing
uses_write (u ∷ us) h =
    let plain : use_text u ≡ rule_spelled u.rule ++ codes "\n" = ap (λ (o : Option Effect). rule_spelled u.rule ++ (taken_text o ++ codes "\n")) h.0 in
    let is : uses_text (u ∷ us) ≡ rule_spelled u.rule ++ (10 ∷ uses_text us) = ap (λ (l : List ℕ). l ++ uses_text us) plain ∙ append_assoc (rule_spelled u.rule) (codes "\n") (uses_text us) in
    subst (Writes (rule_words (u ∷ us))) (sym is) (token (kinds.Word (rule_spelled u.rule)) refl (blank 10 refl (uses_write us h.1)))

pub derivation_writes : (us : List RuleUse) → WriteNoEffect us → Writes (kinds.Reserved Derivation ∷ rule_words us) (derivation_text us)
derivation_writes us h = token (kinds.Reserved Derivation) refl (blank 10 refl (uses_write us h))

-- ---- schedules

abbrev pub step_kinds : Step → List Kind
step_kinds (act i) = kinds.Word (codes "act") ∷ kinds.Number i ∷ kinds.Mark Semicolon ∷ []
step_kinds (talk i j) = kinds.Word (codes "talk") ∷ kinds.Number i ∷ kinds.Number j ∷ kinds.Mark Semicolon ∷ []

abbrev pub steps_kinds : List Step → List Kind
steps_kinds [] = []
steps_kinds (s ∷ ss) = step_kinds s ++ steps_kinds ss

pub act_kind : (later : Bool) → IsKind (words_of later) (kinds.Word (codes "act"))
act_kind true = (letters_identifier (codes "act") refl (omega arith), omega arith, refl)
act_kind false = (letters_identifier (codes "act") refl (omega arith), omega arith, refl)

pub talk_kind : (later : Bool) → IsKind (words_of later) (kinds.Word (codes "talk"))
talk_kind true = (letters_identifier (codes "talk") refl (omega arith), omega arith, refl)
talk_kind false = (letters_identifier (codes "talk") refl (omega arith), omega arith, refl)

all_steps : (later : Bool) (ss : List Step) → AllByRecursion HasLowPlaces ss → AllByRecursion (IsKind (words_of later)) (steps_kinds ss)
all_steps later [] h = tt
all_steps later (act i ∷ ss) h = (act_kind later, (h.0, (tt, all_steps later ss h.1)))
all_steps later (talk i j ∷ ss) h = (talk_kind later, (h.0.0, (h.0.1, (tt, all_steps later ss h.1))))

schedule_first : (later : Bool) → IsKind (words_of later) (kinds.Reserved Schedule)
schedule_first true = refl
schedule_first false = refl

pub schedule_kinds : (later : Bool) (ss : List Step) → AllByRecursion HasLowPlaces ss → AllByRecursion (IsKind (words_of later)) (kinds.Reserved Schedule ∷ steps_kinds ss)
schedule_kinds later ss h = (schedule_first later, all_steps later ss h)

step_writes : (s : Step) (ks : List Kind) (text : List ℕ) → Writes ks text → Writes (step_kinds s ++ ks) (step_text s ++ text)
step_writes (act i) ks text w =
    let is : step_text (act i) ++ text ≡ codes "act " ++ (decimal i ++ (59 ∷ 10 ∷ text)) = ap (λ (l : List ℕ). codes "act " ++ l) (append_assoc (decimal i) (codes ";\n") text) in
    subst (Writes (step_kinds (act i) ++ ks)) (sym is) (token (kinds.Word (codes "act")) refl (blank 32 refl (token (kinds.Number i) refl (token (kinds.Mark Semicolon) tt (blank 10 refl w)))))
step_writes (talk i j) ks text w =
    let rest : List ℕ = decimal j ++ codes ";\n" in
    let is : step_text (talk i j) ++ text ≡ codes "talk " ++ (decimal i ++ (32 ∷ (decimal j ++ (59 ∷ 10 ∷ text)))) =
    ap (λ (l : List ℕ). codes "talk " ++ l) (append_assoc (decimal i) (32 ∷ rest) text ∙ ap (λ (l : List ℕ). decimal i ++ (32 ∷ l)) (append_assoc (decimal j) (codes ";\n") text)) in
    subst (Writes (step_kinds (talk i j) ++ ks)) (sym is)
    (token (kinds.Word (codes "talk")) refl (blank 32 refl (token (kinds.Number i) refl (blank 32 refl (token (kinds.Number j) refl (token (kinds.Mark Semicolon) tt (blank 10 refl w)))))))

steps_write : (ss : List Step) → Writes (steps_kinds ss) (steps_text ss)
steps_write [] = nothing
steps_write (s ∷ ss) = step_writes s (steps_kinds ss) (steps_text ss) (steps_write ss)

pub schedule_writes : (ss : List Step) → Writes (kinds.Reserved Schedule ∷ steps_kinds ss) (schedule_text ss)
schedule_writes ss = token (kinds.Reserved Schedule) refl (blank 10 refl (steps_write ss))
