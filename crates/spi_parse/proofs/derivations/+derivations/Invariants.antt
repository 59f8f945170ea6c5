use Rattle.std.proofs.Common.{◌+◌, ◌-◌, ◌*◌}
use Rattle.spi_parse.proofs.derivations.+derivations.Given as goal

abbrev pub decreases-derivation : goal.decreases-derivation
decreases-derivation l = 20 * (1001 - l.nesting) + 1

abbrev pub decreases-read_one : goal.decreases-read_one
decreases-read_one l = 20 * (1001 - l.nesting) + 0

abbrev pub decreases-read_two : goal.decreases-read_two
decreases-read_two l = 20 * (1001 - l.nesting) + 0

abbrev pub decreases-read_three : goal.decreases-read_three
decreases-read_three l = 20 * (1001 - l.nesting) + 0

abbrev pub decreases-read_sub : goal.decreases-read_sub
decreases-read_sub l = 20 * (1001 - l.nesting) + 0
