use Rattle.spi_term.specs.Term.{message_size}
use Rattle.spi_term.specs.View.{message}
use Rattle.spi_replay.proofs.names.+instance.Given as goal

abbrev pub decreases-instance : goal.decreases-instance
decreases-instance l = message_size (message l.m.now)
