use Rattle.spi_intern.specs.Typed.{kind_at}
use Rattle.spi_message.specs.Filling.{kind_size}
use Rattle.spi_message.proofs.goodness.+is_good_type.Given as goal

abbrev pub decreases-is_good_type : goal.decreases-is_good_type
decreases-is_good_type l = kind_size (kind_at l.store.now.types l.t)
