use Rattle.std.proofs.Common.{suc, ◌+◌}
use Rattle.spi_term.specs.Term.{message_size}
use Rattle.spi_term.specs.View.{message}
use Rattle.spi_intern.proofs.messages.Messages.+intern.Given as goal

abbrev pub decreases-intern : goal.decreases-intern
decreases-intern l = suc (message_size (message l.m.now) + message_size (message l.m.now))

abbrev pub decreases-intern_parts : goal.decreases-intern_parts
decreases-intern_parts l = message_size (message l.m.now) + message_size (message l.m.now)
