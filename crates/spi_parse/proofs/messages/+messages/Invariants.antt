use Rattle.std.proofs.Common.{◌≡◌, ◌+◌, ◌-◌, ◌*◌, [], ◌∷◌, map, length}
use Rattle.spi_parse.specs.Places.{state_of}
use Rattle.spi_parse.specs.Reading.{read, limited, front}
use Rattle.spi_tree.specs.Views.{msg_of}
use Rattle.spi_parse.specs.Table.{msgs}
use Rattle.spi_parse.proofs.messages.+messages.Given as goal

abbrev pub decreases-placed_message : goal.decreases-placed_message
decreases-placed_message l = 16 * (1001 - l.node.nesting) + 6

abbrev pub decreases-message_of : goal.decreases-message_of
decreases-message_of l = 16 * (1001 - l.node.nesting) + 5

abbrev pub decreases-read_enc : goal.decreases-read_enc
decreases-read_enc l = 16 * (1001 - l.node.nesting) + 0

abbrev pub decreases-read_inl : goal.decreases-read_inl
decreases-read_inl l = 16 * (1001 - l.node.nesting) + 0

abbrev pub decreases-read_inr : goal.decreases-read_inr
decreases-read_inr l = 16 * (1001 - l.node.nesting) + 0

abbrev pub decreases-read_hash : goal.decreases-read_hash
decreases-read_hash l = 16 * (1001 - l.node.nesting) + 0

abbrev pub decreases-message_in_parens : goal.decreases-message_in_parens
decreases-message_in_parens l = 16 * (1001 - l.node.nesting) + 1

abbrev pub decreases-read_tuple : goal.decreases-read_tuple
decreases-read_tuple l = 16 * (1001 - l.node.nesting) + 0

abbrev pub decreases-more_messages : goal.decreases-more_messages
decreases-more_messages l = 16 * (1001 - l.node.nesting) + 12

abbrev pub decreases-behind_third : goal.decreases-behind_third
decreases-behind_third l = 16 * (1001 - l.node.nesting) + 11

abbrev pub decreases-several_messages : goal.decreases-several_messages
decreases-several_messages l = 16 * (1001 - l.node.nesting) + 10

abbrev pub decreases-any_message : goal.decreases-any_message
decreases-any_message l = 16 * (1001 - l.node.nesting) + 3

abbrev pub decreases-next_message : goal.decreases-next_message
decreases-next_message l = 16 * (1001 - l.node.nesting) + 9

abbrev pub invariant-several_messages-items : goal.invariant-several_messages-items
invariant-several_messages-items l = front (map msg_of l.more.items) (read limited (msgs l.node.later l.node.numbered l.node.nesting) (state_of l.at)) ≡ front (msg_of l.fn.third ∷ []) (read limited (msgs l.node.later l.node.numbered l.node.nesting) (state_of l.fn.at))

abbrev pub decreases-several_messages-items : goal.decreases-several_messages-items
decreases-several_messages-items l = length (state_of l.at).rest
