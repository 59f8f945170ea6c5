use Rattle.spi_course.proofs.Told.{Came}
use Rattle.spi_course.proofs.course.take_all.Given as goal

abbrev pub invariant-loop-i : goal.invariant-loop-i
invariant-loop-i l = Came l.fn.pool l.i l.steps l.taken.items l.events.items l.pool
