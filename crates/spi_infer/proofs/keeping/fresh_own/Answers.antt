use Rattle.std.proofs.Common.{refl}
use Rattle.spi_count.proofs.Kept.{grows_store}
use Rattle.spi_infer.proofs.keeping.fresh_own.Goals as goal

pub returns-clause-fits : goal.returns-clause-fits
returns-clause-fits c = (c.in_ok-id.id, refl, c.in_ok-id.ensures.at)

pub returns-clause-grows : goal.returns-clause-grows
returns-clause-grows c = grows_store c.in_ok-id.ensures.kept.store c.requires
