use Rattle.spi_show.proofs.Shifts.{no_digits, written_digits}
use Rattle.spi_show.proofs.shift.decimal_in.Goals as goal

pub returns-in-Err : goal.returns-in-Err
returns-in-Err c = no_digits c.args.digits.now c.in-Err.field-0 c.parse.result c.in-Err.is c.parse.ensures.value.0

pub returns-in-Ok : goal.returns-in-Ok
returns-in-Ok c = written_digits c.args.digits.now c.in-Ok.n c.parse.result c.if_written.result c.in-Ok.is c.parse.ensures.value.0 c.if_written.ensures
