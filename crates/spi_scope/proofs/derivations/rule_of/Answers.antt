use Rattle.std.proofs.Common.{refl}
use Rattle.spi_scope.proofs.Rules.{rule_found, no_rule}
use Rattle.spi_scope.proofs.derivations.rule_of.Goals as goal

pub returns-in-Some : goal.returns-in-Some
returns-in-Some c = rule_found _ _ c.in-Some.ensures.some

pub returns-in-None : goal.returns-in-None
returns-in-None c = no_rule _ (c.in-None.ensures.none refl)
