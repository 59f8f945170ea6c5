use Rattle.spi_intern.specs.Typed.{kind_at}
use Rattle.spi_message.specs.Filling.{kind_size}
use Rattle.spi_message.proofs.plain.+is_plain_type.Given as goal

abbrev pub decreases-is_plain_type : goal.decreases-is_plain_type
decreases-is_plain_type l = kind_size (kind_at l.store.now.types l.t)
