use Rattle.spi_commands.proofs.ScheduleSteps.{ReplayCame}
use Rattle.spi_commands.proofs.schedule.take_steps.Given as goal

abbrev pub invariant-loop-i : goal.invariant-loop-i
invariant-loop-i l = ReplayCame l.fn.pool l.i l.steps l.events.items l.talks l.keeps l.pool
