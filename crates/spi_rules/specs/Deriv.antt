-- Derivations as the program has them: the list of a derivation's rule uses in preorder.
use Rattle.std.specs.Prelude.{◌≢◌, ℕ, suc, ◌+◌, List, [], ◌∷◌, map, Option, Some, None}
use Rattle.spi_term.specs.Term as Term
use Rattle.spi_term.specs.View.{effect}
use Rattle.spi_term.specs.declared.term.Effect.{Effect}
use Rattle.spi_rules.specs.declared.rule.Rule.{Rule}
use Rattle.spi_rules.specs.declared.rule.Rule.TheVariants.{ProcSub}
use Rattle.spi_rules.specs.declared.deriv.RuleUse as declared
use Rattle.spi_rules.specs.declared.deriv.Deriv.{Deriv}
use Rattle.spi_rules.specs.Derivations.{RuleUse}
use Rattle.spi_rules.specs.Rule.{arity}

abbrev pub effect_written : Option Effect → Option Term.Effect
effect_written None = None
effect_written (Some e) = Some (effect e)

abbrev pub rule_use : declared.RuleUse → RuleUse
rule_use u = record { rule = u.rule; taken = effect_written u.taken }

abbrev pub rule_uses : Deriv → List RuleUse
rule_uses d = map rule_use d.uses.items

-- an effect is written at a use of ProcSub, and at no other
pub data IsUse : RuleUse → Type 0 where
  sub_use : (fs : Term.Effect) → IsUse (record { rule = ProcSub; taken = Some fs })
  other_use : (r : Rule) → r ≢ ProcSub → IsUse (record { rule = r; taken = None })

-- the uses are n trees in preorder, one after another: a use stands before the trees of its premises
pub data AreTrees : ℕ → List RuleUse → Type 0 where
  no_tree : AreTrees 0 []
  tree : {n : ℕ} {u : RuleUse} {us : List RuleUse}
      → IsUse u → AreTrees (arity u.rule + n) us → AreTrees (suc n) (u ∷ us)

-- the uses are one tree
abbrev pub IsTree : List RuleUse → Type 0
IsTree us = AreTrees 1 us
