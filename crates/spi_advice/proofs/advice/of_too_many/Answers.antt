use Rattle.spi_advice.proofs.Advised.{advised_long}
use Rattle.spi_advice.proofs.advice.of_too_many.Goals as goal

pub returns : goal.returns
returns c = advised_long c.in_ok-r.line.items c.deref.result.now c.joined.result c.in_ok-r.ensures c.joined.ensures
