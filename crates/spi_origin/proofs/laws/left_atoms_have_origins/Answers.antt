use Rattle.spi_origin.proofs.Existing.{left_has_origin, origin_left}
use Rattle.spi_origin.proofs.laws.left_atoms_have_origins.Goals as goal

pub returns : goal.returns
returns c a env p = (λ l. left_has_origin a env p l, λ o. origin_left o.1)
