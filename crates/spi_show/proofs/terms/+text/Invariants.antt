use Rattle.std.proofs.Common.{◌+◌, ◌*◌}
use Rattle.spi_term.specs.Term.{message_size}
use Rattle.spi_term.specs.View.{message}
use Rattle.spi_show.proofs.terms.+text.Given as goal

abbrev pub decreases-put_message : goal.decreases-put_message
decreases-put_message l = 2 * message_size (message l.m.now)

abbrev pub decreases-put_tuple : goal.decreases-put_tuple
decreases-put_tuple l = 2 * (message_size (message l.first.now) + message_size (message l.rest.now)) + 1

abbrev pub decreases-put_worded : goal.decreases-put_worded
decreases-put_worded l = 2 * message_size (message l.m.now) + 1

abbrev pub decreases-put_enc : goal.decreases-put_enc
decreases-put_enc l = 2 * (message_size (message l.body.now) + message_size (message l.key.now)) + 1
