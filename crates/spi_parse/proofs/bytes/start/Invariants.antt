use Rattle.std.proofs.Common.{◌≡◌, ◌-◌, length, drop}
use Rattle.spi_lex.specs.Left.{tokens_in}
use Rattle.spi_lex.specs.Reader.{tokens_left}
use Rattle.spi_parse.proofs.bytes.start.Given as goal

abbrev pub invariant-loop-words : goal.invariant-loop-words
invariant-loop-words l =
    drop l.ahead (tokens_left l.words) ≡ drop (length (tokens_in l.fn.text) - l.fn.left) (tokens_in l.fn.text)

abbrev pub decreases-loop-words : goal.decreases-loop-words
decreases-loop-words l = l.ahead
