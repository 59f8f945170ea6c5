use Rattle.std.proofs.Common.{◌≡◌, ◌+◌, ◌-◌, ◌*◌, map, length}
use Rattle.spi_parse.specs.Places.{state_of}
use Rattle.spi_parse.specs.Reading.{read, limited, front}
use Rattle.spi_tree.specs.Views.{field_of}
use Rattle.spi_parse.specs.Table.{fields}
use Rattle.spi_parse.proofs.types.+types.Given as goal

abbrev pub decreases-placed_type : goal.decreases-placed_type
decreases-placed_type l = 20 * (1001 - l.nesting) + 5

abbrev pub decreases-read_type : goal.decreases-read_type
decreases-read_type l = 20 * (1001 - l.nesting) + 4

abbrev pub decreases-any_type : goal.decreases-any_type
decreases-any_type l = 20 * (1001 - l.nesting) + 3

abbrev pub decreases-read_key : goal.decreases-read_key
decreases-read_key l = 20 * (1001 - l.nesting) + 0

abbrev pub decreases-type_in_parens : goal.decreases-type_in_parens
decreases-type_in_parens l = 20 * (1001 - l.nesting) + 2

abbrev pub decreases-read_sum : goal.decreases-read_sum
decreases-read_sum l = 20 * (1001 - l.nesting) + 0

abbrev pub decreases-type_behind_word : goal.decreases-type_behind_word
decreases-type_behind_word l = 20 * (1001 - l.nesting) + 1

abbrev pub decreases-read_tuple_type : goal.decreases-read_tuple_type
decreases-read_tuple_type l = 20 * (1001 - l.nesting) + 0

abbrev pub decreases-read_sum_of_word : goal.decreases-read_sum_of_word
decreases-read_sum_of_word l = 20 * (1001 - l.nesting) + 0

abbrev pub decreases-read_fields : goal.decreases-read_fields
decreases-read_fields l = 20 * (1001 - l.nesting) + 9

abbrev pub decreases-next_field : goal.decreases-next_field
decreases-next_field l = 20 * (1001 - l.nesting) + 8

abbrev pub decreases-field_behind_word : goal.decreases-field_behind_word
decreases-field_behind_word l = 20 * (1001 - l.nesting) + 6

abbrev pub invariant-read_fields-items : goal.invariant-read_fields-items
invariant-read_fields-items l = front (map field_of l.more.items) (read limited (fields l.later l.nesting) (state_of l.at)) ≡ read limited (fields l.later l.nesting) (state_of l.fn.at)

abbrev pub decreases-read_fields-items : goal.decreases-read_fields-items
decreases-read_fields-items l = length (state_of l.at).rest
