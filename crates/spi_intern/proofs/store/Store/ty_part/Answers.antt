use Rattle.spi_intern.proofs.Lending.{lent_un, lent_unit, lent_pair, lent_sum, lent_key, lent_nonce}
use Rattle.spi_intern.proofs.store.Store.ty_part.Goals as goal

pub returns-in-Un : goal.returns-in-Un
returns-in-Un c u h = lent_un h (c.in-Un.ensures _ h.at)

pub returns-in-Unit : goal.returns-in-Unit
returns-in-Unit c u h = lent_unit h (c.in-Unit.ensures _ h.at)

pub returns-in-Pair : goal.returns-in-Pair
returns-in-Pair c u h = lent_pair h (c.in-Pair.ensures _ h.at)

pub returns-in-Sum : goal.returns-in-Sum
returns-in-Sum c u h = lent_sum h (c.in-Sum.ensures _ h.at)

pub returns-in-Key : goal.returns-in-Key
returns-in-Key c u h = lent_key h (c.in-Key.ensures _ h.at)

pub returns-in-Nonce : goal.returns-in-Nonce
returns-in-Nonce c u h = lent_nonce h (c.in-Nonce.ensures _ h.at) _ c.atoms.ensures
