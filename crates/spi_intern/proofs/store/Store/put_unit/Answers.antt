use Rattle.spi_intern.specs.Typed.{says_unit}
use Rattle.spi_intern.proofs.store.Store.put_unit.Goals as goal

pub put-requires : goal.put-requires
put-requires c = says_unit
