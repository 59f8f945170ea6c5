use Rattle.spi_blame.proofs.Telling.{weaker}
use Rattle.spi_blame.proofs.blame.of_body.Goals as goal

pub returns : goal.returns
returns c = weaker c.of_two.result (λ o g env q k a j h t. g env q k a j h t) c.of_two.ensures
