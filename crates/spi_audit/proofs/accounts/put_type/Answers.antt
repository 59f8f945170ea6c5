use Rattle.spi_term.specs.Term.{nonce}
use Rattle.spi_audit.proofs.Holding.{held_more, below_none}
use Rattle.spi_audit.proofs.accounts.put_type.Goals as goal

pub returns : goal.returns
returns c fs k kd m key l es h = held_more fs h (below_none k fs l) (c.in_ok-add_type.ensures (nonce fs) h.inner kd m key h.stands)
