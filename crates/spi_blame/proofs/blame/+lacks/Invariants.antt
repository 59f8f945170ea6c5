use Rattle.std.proofs.Common.{◌+◌, ◌*◌}
use Rattle.spi_term.specs.Term.{message_size}
use Rattle.spi_term.specs.View.{message}
use Rattle.spi_blame.proofs.blame.+lacks.Given as goal

abbrev pub decreases-lacking_label : goal.decreases-lacking_label
decreases-lacking_label l = 3 * message_size (message l.m.now)

abbrev pub decreases-lacking : goal.decreases-lacking
decreases-lacking l = 3 * message_size (message l.m.now)

abbrev pub decreases-lacking_both : goal.decreases-lacking_both
decreases-lacking_both l = 3 * (message_size (message l.m.now) + message_size (message l.n.now)) + 1

abbrev pub decreases-lacking_sealed : goal.decreases-lacking_sealed
decreases-lacking_sealed l = 3 * (message_size (message l.body.now) + message_size (message l.key.now)) + 2
