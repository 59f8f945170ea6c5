use Rattle.spi_weave.proofs.Formed.{woven_formed}
use Rattle.spi_weave.proofs.laws.woven_trees_are_formed.Goals as goal

pub returns : goal.returns
returns c = woven_formed
