use Rattle.spi_term.specs.Term.{nonce}
use Rattle.spi_audit.proofs.Holding.{held_less, below_none}
use Rattle.spi_audit.proofs.accounts.drop_type.Goals as goal

pub returns : goal.returns
returns c fs k kd m l es h = held_less fs h (below_none k fs l) (c.take_type.ensures (nonce fs) h.inner kd m h.stands)
