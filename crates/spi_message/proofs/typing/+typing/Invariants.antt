use Rattle.std.proofs.Common.{suc, ◌+◌}
use Rattle.spi_term.specs.Term.{message_size}
use Rattle.spi_intern.specs.Messages.{message_at}
use Rattle.spi_message.proofs.typing.+typing.Given as goal

abbrev pub decreases-has_type : goal.decreases-has_type
decreases-has_type l = message_size (message_at l.store.now.messages l.m) + message_size (message_at l.store.now.messages l.m)

abbrev pub decreases-is_label : goal.decreases-is_label
decreases-is_label l = message_size (message_at l.store.now.messages l.m) + message_size (message_at l.store.now.messages l.m)

abbrev pub decreases-is_sealed : goal.decreases-is_sealed
decreases-is_sealed l = suc (message_size (message_at l.store.now.messages l.body) + message_size (message_at l.store.now.messages l.body) + (message_size (message_at l.store.now.messages l.key) + message_size (message_at l.store.now.messages l.key)))

abbrev pub decreases-pair_has_type : goal.decreases-pair_has_type
decreases-pair_has_type l = suc (message_size (message_at l.store.now.messages l.a) + message_size (message_at l.store.now.messages l.a) + (message_size (message_at l.store.now.messages l.b) + message_size (message_at l.store.now.messages l.b)))
