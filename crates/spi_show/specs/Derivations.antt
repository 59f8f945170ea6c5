-- The text of a derivation.
use Rattle.std.specs.Prelude.{ℕ, List, [], ◌∷◌, ◌++◌, codes, Option, Some, None}
use Rattle.spi_term.specs.Term.{Effect}
use Rattle.spi_rules.specs.Rule.{rule_spelled}
use Rattle.spi_rules.specs.Derivations.{RuleUse}
use Rattle.spi_show.specs.Spelled.{numbered_text}
use Rattle.spi_show.specs.Terms.{effect_text}

-- the effect that a use of ProcSub writes stands behind a space
abbrev pub taken_text : Option Effect → List ℕ
taken_text None = []
taken_text (Some es) = codes " " ++ effect_text numbered_text 0 es

-- a line for each rule use, in preorder
abbrev pub use_text : RuleUse → List ℕ
use_text u = rule_spelled u.rule ++ (taken_text u.taken ++ codes "\n")

abbrev pub uses_text : List RuleUse → List ℕ
uses_text [] = []
uses_text (u ∷ us) = use_text u ++ uses_text us

abbrev pub derivation_text : List RuleUse → List ℕ
derivation_text us = codes "derivation\n" ++ uses_text us
