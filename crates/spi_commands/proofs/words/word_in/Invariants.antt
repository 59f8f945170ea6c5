use Rattle.std.proofs.Common.{◌≡◌, drop}
use Rattle.spi_commands.specs.Asked.{row_of}
use Rattle.spi_commands.specs.Options.{word_rows}
use Rattle.spi_commands.proofs.words.word_in.Given as goal

-- the rows so far have other words
abbrev pub invariant-loop-row : goal.invariant-loop-row
invariant-loop-row l = record {
  none : row_of l.word (word_rows l.rows) ≡ row_of l.word (word_rows (drop l.row-index l.rows));
}
