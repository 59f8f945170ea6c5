use Rattle.std.proofs.Common.{◌*◌, ◌+◌}
use Rattle.spi_term.specs.Term.{message_size}
use Rattle.spi_intern.specs.Messages.{message_at}
use Rattle.spi_replay.proofs.reading.+nodes.Given as goal

abbrev pub decreases-nodes_after : goal.decreases-nodes_after
decreases-nodes_after l = 2 * message_size (message_at l.store.now.messages l.id)

abbrev pub decreases-nodes_after_part : goal.decreases-nodes_after_part
decreases-nodes_after_part l = 2 * message_size (message_at l.store.now.messages l.id) + 1
