use Rattle.spi_show.specs.Shifts.{IsLeastBeside}
use Rattle.spi_show.proofs.shift.least_beside.Given as goal

abbrev pub invariant-loop-n : goal.invariant-loop-n
invariant-loop-n l = IsLeastBeside l.numbers l.n-index l.s
