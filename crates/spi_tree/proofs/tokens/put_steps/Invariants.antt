use Rattle.std.proofs.Common.{◌≡◌, ◌++◌, map, take}
use Rattle.spi_tree.specs.Views.{step_of}
use Rattle.spi_tree.specs.Listed.{joined, step_list}
use Rattle.spi_tree.proofs.tokens.put_steps.Given as goal

abbrev pub invariant-loop-step : goal.invariant-loop-step
invariant-loop-step l = l.out.items ≡ l.fn.out.items ++ joined step_list (map step_of (take l.step-index l.steps))
