use Rattle.std.proofs.Common.{◌≡◌, length}
use Rattle.spi_parse.specs.Places.{state_of}
use Rattle.spi_parse.specs.Reading.{read, limited, front}
use Rattle.spi_parse.specs.Table.{words}
use Rattle.spi_parse.proofs.declarations.more_words.Given as goal

abbrev pub invariant-items : goal.invariant-items
invariant-items l = front l.more.items (read limited words (state_of l.at)) ≡ read limited words (state_of l.fn.at)

abbrev pub decreases-items : goal.decreases-items
decreases-items l = length (state_of l.at).rest
