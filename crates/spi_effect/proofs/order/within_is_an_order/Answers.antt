use Rattle.spi_effect.proofs.Laws.{within_refl, within_trans, within_both}
use Rattle.spi_effect.proofs.order.within_is_an_order.Goals as goal

pub returns : goal.returns
returns c = record { reflexive = within_refl; transitive = λ es fs gs. within_trans; antisymmetric = λ es fs. within_both }
