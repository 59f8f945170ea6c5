use Rattle.spi_spell.proofs.Joining.{with_a_derivation}
use Rattle.spi_spell.proofs.derivation_joins.Goals as goal

pub returns : goal.returns
returns c = λ bytes file d spells none canonical short. with_a_derivation bytes file spells.0 spells.1 spells.2 none d canonical short
