use Rattle.spi_weave.proofs.Starting.{woven_starts}
use Rattle.spi_weave.proofs.laws.woven_nodes_start_within.Goals as goal

pub returns : goal.returns
returns c = woven_starts
