use Rattle.spi_show.specs.Shifts.{IsSwept}
use Rattle.spi_show.proofs.shift.sweep.Given as goal

abbrev pub invariant-loop-n : goal.invariant-loop-n
invariant-loop-n l = IsSwept l.numbers l.n-index l.s
