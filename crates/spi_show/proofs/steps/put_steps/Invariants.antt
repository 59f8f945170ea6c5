use Rattle.std.proofs.Common.{◌≡◌, ◌++◌, map, take}
use Rattle.spi_run.specs.View.{step}
use Rattle.spi_show.specs.Steps.{steps_text}
use Rattle.spi_show.proofs.steps.put_steps.Given as goal

abbrev pub invariant-loop-s : goal.invariant-loop-s
invariant-loop-s l = l.out.items ≡ l.initial.out.items ++ steps_text (map step (take l.s-index l.steps))
