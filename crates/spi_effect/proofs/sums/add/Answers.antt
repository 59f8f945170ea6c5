use Rattle.spi_effect.proofs.Made.{sum_is}
use Rattle.spi_effect.proofs.sums.add.Goals as goal

pub returns : goal.returns
returns c = sum_is (cc (c.in_ok-push_copies.ensures, c.in_ok-sum.ensures, c.deref.ensures.value))
