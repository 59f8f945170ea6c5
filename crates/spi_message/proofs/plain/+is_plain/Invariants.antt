use Rattle.spi_term.specs.Term.{message_size}
use Rattle.spi_intern.specs.Messages.{message_at}
use Rattle.spi_message.proofs.plain.+is_plain.Given as goal

abbrev pub decreases-is_plain : goal.decreases-is_plain
decreases-is_plain l = message_size (message_at l.store.now.messages l.m)
