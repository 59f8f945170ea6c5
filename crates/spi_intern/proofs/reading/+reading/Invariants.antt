use Rattle.std.proofs.Common.{◌+◌, ◌*◌}
use Rattle.spi_term.specs.Term.{message_size}
use Rattle.spi_intern.specs.Messages.{message_at}
use Rattle.spi_intern.proofs.reading.+reading.Given as goal

abbrev pub decreases-message_of : goal.decreases-message_of
decreases-message_of l = 2 * message_size (message_at l.store.now.messages l.id)

abbrev pub decreases-part_of : goal.decreases-part_of
decreases-part_of l = 2 * message_size (message_at l.store.now.messages l.id) + 1
