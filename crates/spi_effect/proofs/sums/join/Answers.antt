use Rattle.spi_effect.proofs.Made.{greater_of}
use Rattle.spi_effect.proofs.sums.join.Goals as goal

pub returns : goal.returns
returns c = greater_of c.in_ok-more.ensures (cc (c.in_ok-push_copies.ensures, c.in_ok-both.ensures, c.deref.ensures.value))
