use Rattle.std.proofs.Common.{◌+◌, ◌-◌, ◌*◌}
use Rattle.spi_parse.proofs.processes.+processes.Given as goal

abbrev pub decreases-parallel : goal.decreases-parallel
decreases-parallel l = 20 * (501 - l.level) + 5

abbrev pub decreases-par_rest : goal.decreases-par_rest
decreases-par_rest l = 20 * (501 - l.level) + 3

abbrev pub decreases-sequence : goal.decreases-sequence
decreases-sequence l = 20 * (501 - l.nesting) + 12

abbrev pub decreases-out_rest : goal.decreases-out_rest
decreases-out_rest l = 20 * (501 - l.nesting) + 1

abbrev pub decreases-read_out : goal.decreases-read_out
decreases-read_out l = 20 * (501 - l.nesting) + 7

abbrev pub decreases-read_receiving : goal.decreases-read_receiving
decreases-read_receiving l = 20 * (501 - l.nesting) + 6

abbrev pub decreases-read_label : goal.decreases-read_label
decreases-read_label l = 20 * (501 - l.nesting) + 6

abbrev pub decreases-read_inp : goal.decreases-read_inp
decreases-read_inp l = 20 * (501 - l.nesting) + 7

abbrev pub decreases-read_repeat : goal.decreases-read_repeat
decreases-read_repeat l = 20 * (501 - l.nesting) + 7

abbrev pub decreases-read_split : goal.decreases-read_split
decreases-read_split l = 20 * (501 - l.nesting) + 7

abbrev pub decreases-read_match : goal.decreases-read_match
decreases-read_match l = 20 * (501 - l.nesting) + 7

abbrev pub decreases-read_case : goal.decreases-read_case
decreases-read_case l = 20 * (501 - l.nesting) + 7

abbrev pub decreases-read_decrypt : goal.decreases-read_decrypt
decreases-read_decrypt l = 20 * (501 - l.nesting) + 7

abbrev pub decreases-read_check : goal.decreases-read_check
decreases-read_check l = 20 * (501 - l.nesting) + 7

abbrev pub decreases-read_begin : goal.decreases-read_begin
decreases-read_begin l = 20 * (501 - l.nesting) + 7

abbrev pub decreases-read_end : goal.decreases-read_end
decreases-read_end l = 20 * (501 - l.nesting) + 7

abbrev pub decreases-read_end_many : goal.decreases-read_end_many
decreases-read_end_many l = 20 * (501 - l.nesting) + 7

abbrev pub decreases-read_cast : goal.decreases-read_cast
decreases-read_cast l = 20 * (501 - l.nesting) + 7

abbrev pub decreases-read_new : goal.decreases-read_new
decreases-read_new l = 20 * (501 - l.nesting) + 7

abbrev pub decreases-read_group : goal.decreases-read_group
decreases-read_group l = 20 * (501 - l.nesting) + 7

abbrev pub decreases-read_form : goal.decreases-read_form
decreases-read_form l = 20 * (501 - l.nesting) + 10

abbrev pub decreases-read_talk : goal.decreases-read_talk
decreases-read_talk l = 20 * (501 - l.nesting) + 9

abbrev pub decreases-read_open : goal.decreases-read_open
decreases-read_open l = 20 * (501 - l.nesting) + 9

abbrev pub decreases-read_event : goal.decreases-read_event
decreases-read_event l = 20 * (501 - l.nesting) + 9

abbrev pub decreases-read_plain : goal.decreases-read_plain
decreases-read_plain l = 20 * (501 - l.nesting) + 9
