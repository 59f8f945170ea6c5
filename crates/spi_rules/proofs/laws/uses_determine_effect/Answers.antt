use Rattle.std.proofs.Common.{sym, ◌∙◌, subst}
use Rattle.spi_effect.proofs.Laws.{same_sym, same_trans}
use Rattle.spi_rules.specs.Deriv.{IsTree}
use Rattle.spi_rules.proofs.Determined.{effect_tree, same_effect}
use Rattle.spi_rules.proofs.laws.uses_determine_effect.Goals as goal

pub returns-clause-tree : goal.returns-clause-tree
returns-clause-tree c = λ d env p es h. subst (λ us. IsTree us) h.are (effect_tree h.has)

pub returns-clause-effect : goal.returns-clause-effect
returns-clause-effect c = λ d env p es fs h k. same_trans (same_sym h.same) (same_trans (same_effect h.has k.has (h.are ∙ sym k.are)) k.same)
