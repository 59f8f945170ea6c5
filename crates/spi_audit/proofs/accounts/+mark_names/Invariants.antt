use Rattle.spi_term.specs.Term.{message_size}
use Rattle.spi_intern.specs.Messages.{message_at}
use Rattle.spi_audit.proofs.accounts.+mark_names.Given as goal

abbrev pub decreases-mark_names : goal.decreases-mark_names
decreases-mark_names l = message_size (message_at l.store.now.messages l.id)
