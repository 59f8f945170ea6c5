use Rattle.spi_intern.specs.Typed.{kind_at}
use Rattle.spi_message.specs.Filling.{kind_size}
use Rattle.spi_message.proofs.filling.+filled_type.Given as goal

abbrev pub decreases-filled_type : goal.decreases-filled_type
decreases-filled_type l = kind_size (kind_at l.store.now.types l.t)
