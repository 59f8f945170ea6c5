use Rattle.std.proofs.Common.{◌≡◌, drop}
use Rattle.spi_lex.specs.Reader.{tokens_left}
use Rattle.spi_lex.proofs.numbered.past.Given as goal

abbrev pub invariant-loop-ahead : goal.invariant-loop-ahead
invariant-loop-ahead l = drop l.ahead (tokens_left l.words) ≡ drop l.fn.count (tokens_left l.fn.start)

abbrev pub decreases-loop-ahead : goal.decreases-loop-ahead
decreases-loop-ahead l = l.ahead
