use Rattle.spi_count.proofs.Standing.{pile_of_sum, pile_settled}
use Rattle.spi_count.proofs.Waiting.{none_waits}
use Rattle.spi_count.proofs.piling.drop_atoms.Goals as goal

pub returns : goal.returns
returns c s fs es k m t =
    pile_of_sum {s = c.take_atoms.new.sum} (λ kind q. none_waits kind _ _ q c.in_ok-settle.ensures.none)
    (c.take_atoms.ensures s fs es k m (pile_settled {s = c.settle.new.self.sum} c.in_ok-settle.ensures.counted t))
