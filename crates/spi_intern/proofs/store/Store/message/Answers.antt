use Rattle.std.proofs.Common.{refl}
use Rattle.spi_intern.proofs.Telling.{equal_of}
use Rattle.spi_intern.proofs.Adding.{message_adds}
use Rattle.spi_intern.proofs.Few.{few_new}
use Rattle.spi_intern.proofs.store.Store.message.Goals as goal

pub returns-clause-equal : goal.returns-clause-equal
returns-clause-equal c = equal_of _ _ c.intern.ensures.distinct c.intern.result c.intern.ensures.at

pub returns-clause-adds : goal.returns-clause-adds
returns-clause-adds c = message_adds _ _ _ refl c.intern.result c.intern.ensures.grows

pub returns-clause-few : goal.returns-clause-few
returns-clause-few c = few_new _ _ _ c.intern.result c.intern.ensures.grows
