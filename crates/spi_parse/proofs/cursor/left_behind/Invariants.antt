use Rattle.std.proofs.Common.{◌≡◌, ◌+◌, ◌≤◌, length}
use Rattle.spi_lex.specs.Left.{left_of}
use Rattle.spi_lex.specs.Reader.{tokens_left}
use Rattle.spi_parse.proofs.cursor.left_behind.Given as goal

abbrev pub invariant-loop-words : goal.invariant-loop-words
invariant-loop-words l = (l.count + length (tokens_left l.words) ≡ length (left_of l.fn.start.later l.fn.start.at l.fn.start.rest.now)) × (length (left_of l.fn.start.later l.fn.start.at l.fn.start.rest.now) ≤ 16_777_216)

abbrev pub decreases-loop-words : goal.decreases-loop-words
decreases-loop-words l = length (tokens_left l.words)
