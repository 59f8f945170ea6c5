use Rattle.std.proofs.Common.{◌≡◌, ℕ, List, sym, ◌∙◌, subst}
use Rattle.std.specs.Prelude.{Option, Some, None, IfSome, IsNone}
use Rattle.spi_rules.specs.declared.rule.Rule.{Rule}
use Rattle.spi_rules.specs.Rule.{rule_spelled, named}
use Rattle.spi_rules.proofs.Named.{rules, each_named, named_spelled}
use Rattle.spi_rules.proofs.rule.gone_over.Goals as goal

some_is : (rs : List Rule) (word : List ℕ) (found : Option Rule) → found ≡ named rs word
    → IfSome found (λ r. rule_spelled r ≡ word)
some_is rs word None e = tt
some_is rs word (Some r) e = named_spelled rs word r (sym e)

none_is : (word : List ℕ) (found : Option Rule) → found ≡ named rules word → IsNone found
    → (r : Rule) → rule_spelled r ≡ word → ⊥
none_is word None e h r s = let q : None ≡ Some r = e ∙ subst (λ w. named rules w ≡ Some r) s (each_named r) in absurd (cc)
none_is word (Some q) e h r s = absurd (cc)

pub returns-clause-some : goal.returns-clause-some
returns-clause-some c = some_is rules c.args.word.now c.named.result c.named.ensures

pub returns-clause-none : goal.returns-clause-none
returns-clause-none c = none_is c.args.word.now c.named.result c.named.ensures
