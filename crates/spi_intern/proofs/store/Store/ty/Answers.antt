use Rattle.spi_intern.proofs.Telling.{types_tell}
use Rattle.spi_intern.proofs.store.Store.ty.Goals as goal

pub returns-clause-equal : goal.returns-clause-equal
returns-clause-equal c = λ j u b. types_tell c.intern.new.self c.distinct.ensures.differ c.in_ok-id.id.place j _ u c.in_ok-id.ensures.at b
