use Rattle.spi_term.specs.Term.{message_size}
use Rattle.spi_intern.specs.Messages.{message_at}
use Rattle.spi_message.proofs.filling.+filled_message.Given as goal

abbrev pub decreases-filled_message : goal.decreases-filled_message
decreases-filled_message l = message_size (message_at l.store.now.messages l.m)
