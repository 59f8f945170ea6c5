use Rattle.std.proofs.Common.{◌+◌, ◌*◌}
use Rattle.spi_term.specs.Term.{message_size}
use Rattle.spi_term.specs.View.{message}
use Rattle.spi_show.proofs.report.+reported.Given as goal

abbrev pub decreases-put_message : goal.decreases-put_message
decreases-put_message l = 2 * message_size (message l.m.now)

abbrev pub decreases-put_reported : goal.decreases-put_reported
decreases-put_reported l = 2 * message_size (message l.m.now) + 1

abbrev pub decreases-put_part : goal.decreases-put_part
decreases-put_part l = 2 * message_size (message l.m.now) + 1
