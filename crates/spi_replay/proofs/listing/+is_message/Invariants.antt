use Rattle.spi_term.specs.Term.{message_size}
use Rattle.spi_intern.specs.Messages.{message_at}
use Rattle.spi_replay.proofs.listing.+is_message.Given as goal

abbrev pub decreases-is_message : goal.decreases-is_message
decreases-is_message l = message_size (message_at l.store.now.messages l.id)
