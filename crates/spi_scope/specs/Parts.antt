-- What the schedule and the derivation of a tree stand for.
use Rattle.std.specs.Prelude.{List, [], ◌∷◌, ◌++◌, map, Option, Some, None}
use Rattle.spi_text.specs.declared.lines.Span.{Span}
use Rattle.spi_tree.specs.Trees as t
use Rattle.spi_term.specs.Term.{Message, name, unit, in_left, in_right, enc, hash, Atom, ends, checks, many, Effect}
use Rattle.spi_run.specs.Reduction.{Step, act, talk}
use Rattle.spi_rules.specs.declared.rule.Rule.{Rule}
use Rattle.spi_rules.specs.declared.rule.Rule.TheVariants.{MsgName, MsgUnit, MsgUnitUn, MsgPair, MsgPairUn, MsgInl, MsgInlUn, MsgInr, MsgInrUn, MsgEnc, MsgEncUn, MsgHash, ProcStop, ProcOut, ProcIn, ProcRepeat, ProcSplit, ProcSplitUn, ProcMatch, ProcMatchUn, ProcCase, ProcCaseUn, ProcDecrypt, ProcDecryptUn, ProcCheck, ProcCheckUn, ProcBegin, ProcEnd, ProcEndMany, ProcCast, ProcCastUn, ProcNew, ProcPar, ProcSub}
use Rattle.spi_rules.specs.Rule.{named}
use Rattle.spi_rules.specs.Derivations.{RuleUse}
use Rattle.spi_scope.specs.Scope.{Word}
use Rattle.spi_scope.specs.Meaning.{nested}

abbrev pub step_in : t.Step → Step
step_in (t.act s i) = act i
step_in (t.talk s i j) = talk i j

abbrev pub step_span : t.Step → Span
step_span (t.act s i) = s
step_span (t.talk s i j) = s

-- a message of a derivation, in which `#n` is the name n. No spelling stands in it in a formed tree
abbrev mutual
  pub numbered_message : t.Msg → Message
  numbered_message (t.name s w) = unit
  numbered_message (t.unit s) = unit
  numbered_message (t.tuple s a b ms) =
      nested (numbered_message a) (numbered_message b ∷ numbered_messages ms)
  numbered_message (t.inl s a) = in_left (numbered_message a)
  numbered_message (t.inr s a) = in_right (numbered_message a)
  numbered_message (t.enc s a b) = enc (numbered_message a) (numbered_message b)
  numbered_message (t.hash s a) = hash (numbered_message a)
  numbered_message (t.num s i) = name i

  pub numbered_messages : t.Msgs → List Message
  numbered_messages t.no_msgs = []
  numbered_messages (t.more_msgs m ms) = numbered_message m ∷ numbered_messages ms

abbrev pub numbered_atom : t.Atom → Atom
numbered_atom (t.ends s m) = ends (numbered_message m)
numbered_atom (t.checks s m) = checks (numbered_message m)
numbered_atom (t.many s m) = many (numbered_message m)

abbrev pub numbered_effect : Option (List t.Atom) → Option Effect
numbered_effect None = None
numbered_effect (Some es) = Some (map numbered_atom es)

-- the rule with this name. Each word of a rule names one in a formed tree
abbrev pub every_rule : List Rule
every_rule =
    MsgName ∷ MsgUnit ∷ MsgUnitUn ∷ MsgPair ∷ MsgPairUn ∷ MsgInl ∷ MsgInlUn ∷ MsgInr ∷ MsgInrUn ∷ MsgEnc
    ∷ MsgEncUn ∷ MsgHash
    ∷ ProcStop ∷ ProcOut ∷ ProcIn ∷ ProcRepeat ∷ ProcSplit ∷ ProcSplitUn ∷ ProcMatch ∷ ProcMatchUn ∷ ProcCase
    ∷ ProcCaseUn
    ∷ ProcDecrypt ∷ ProcDecryptUn ∷ ProcCheck ∷ ProcCheckUn ∷ ProcBegin ∷ ProcEnd ∷ ProcEndMany ∷ ProcCast
    ∷ ProcCastUn
    ∷ ProcNew ∷ ProcPar ∷ ProcSub ∷ []

abbrev pub known_rule : Option Rule → Rule
known_rule None = MsgUnit
known_rule (Some r) = r

abbrev pub rule_named : Word → Rule
rule_named w = known_rule (named every_rule w)

-- the uses of a derivation in preorder, and where they stand
abbrev mutual
  pub uses_in : t.Deriv → List RuleUse
  uses_in (t.rule s w es ds) =
      record { rule = rule_named w.word; taken = numbered_effect es } ∷ all_uses_in ds

  pub all_uses_in : t.Derivs → List RuleUse
  all_uses_in t.no_derivs = []
  all_uses_in (t.more_derivs d ds) = uses_in d ++ all_uses_in ds

abbrev mutual
  pub use_places : t.Deriv → List Span
  use_places (t.rule s w es ds) = s ∷ all_use_places ds

  pub all_use_places : t.Derivs → List Span
  all_use_places t.no_derivs = []
  all_use_places (t.more_derivs d ds) = use_places d ++ all_use_places ds
