use Rattle.spi_show.proofs.Shifts.{number_if}
use Rattle.spi_show.proofs.shift.number_in.Goals as goal

pub returns-in-Some : goal.returns-in-Some
returns-in-Some c = number_if c.args.prefix.now c.args.word.now c.in-Some.digits.now c.decimal_in.result c.in-Some.ensures c.decimal_in.ensures
