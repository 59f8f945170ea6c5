use Rattle.spi_show.specs.Shifts.{AreWordNumbers}
use Rattle.spi_show.proofs.shift.numbers_in.Given as goal

abbrev pub invariant-loop-word : goal.invariant-loop-word
invariant-loop-word l = AreWordNumbers l.prefix l.words l.word-index l.numbers.items
