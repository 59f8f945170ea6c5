use Rattle.spi_horn.proofs.Waited.{puts}
use Rattle.spi_horn.proofs.waiting.put.Goals as goal

pub returns : goal.returns
returns c = puts _ _ _ _ _ c.requires c.in_ok-push.ensures.items
