use Rattle.std.proofs.Common.{◌<◌, length}
use Rattle.spi_lex.specs.Reader.{tokens_left}
use Rattle.spi_lex.proofs.Places.{Taken}
use Rattle.spi_lex.proofs.numbered.places_of.Given as goal

abbrev pub invariant-loop-words : goal.invariant-loop-words
invariant-loop-words l = Taken l.fn.text l.places.items (tokens_left l.words) l.count l.end l.ahead × (0 < l.ahead)

abbrev pub decreases-loop-words : goal.decreases-loop-words
decreases-loop-words l = length (tokens_left l.words)
