use Rattle.spi_intern.proofs.Counting.{effect_means}
use Rattle.spi_intern.proofs.store.Store.effect.Goals as goal

pub returns-clause-at : goal.returns-clause-at
returns-clause-at c = effect_means _ c.count.ensures.distinct c.in_ok-written.ensures.at c.in_ok-ids.ensures.counts c.in_ok-ids.ensures.order c.put.result c.put.ensures.at
