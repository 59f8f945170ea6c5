use Rattle.std.proofs.Common.{◌+◌, ◌*◌}
use Rattle.spi_term.specs.Term.{message_size}
use Rattle.spi_term.specs.View.{message}
use Rattle.spi_deriv.proofs.messages.+message.Given as goal

abbrev pub decreases-push_message : goal.decreases-push_message
decreases-push_message l = 4 * message_size (message l.m.now)

abbrev pub decreases-push_one : goal.decreases-push_one
decreases-push_one l = 4 * message_size (message l.a.now) + 1

abbrev pub decreases-push_both : goal.decreases-push_both
decreases-push_both l = 4 * (message_size (message l.a.now) + message_size (message l.b.now)) + 2

abbrev pub decreases-push_pair : goal.decreases-push_pair
decreases-push_pair l = 4 * (message_size (message l.a.now) + message_size (message l.b.now)) + 3

abbrev pub decreases-push_enc : goal.decreases-push_enc
decreases-push_enc l = 4 * (message_size (message l.a.now) + message_size (message l.key.now)) + 3

abbrev pub decreases-push_left : goal.decreases-push_left
decreases-push_left l = 4 * message_size (message l.a.now) + 3

abbrev pub decreases-push_right : goal.decreases-push_right
decreases-push_right l = 4 * message_size (message l.a.now) + 3
