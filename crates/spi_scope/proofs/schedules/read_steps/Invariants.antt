use Rattle.std.proofs.Common.{◌≡◌, ◌+◌, ◌++◌, drop, map, length}
use Rattle.spi_tree.specs.Views.{step_of}
use Rattle.spi_run.specs.View.{step}
use Rattle.spi_scope.specs.Parts.{step_in, step_span}
use Rattle.spi_scope.specs.Points.{steps_points}
use Rattle.spi_scope.specs.Gives.{run}
use Rattle.spi_scope.proofs.schedules.read_steps.Given as goal

abbrev pub invariant-loop-s : goal.invariant-loop-s
invariant-loop-s l =
    let rest = map step_of (drop l.s-index l.steps) in
    let all = map step_of l.steps in
    record {
      ran : run (steps_points (length l.places.items + 1) (length l.steps) rest) l.count ≡ run (steps_points 1 (length l.steps) all) l.count;
      read : map step l.read.items ++ map step_in rest ≡ map step_in all;
      placed : l.places.items ++ map step_span rest ≡ map step_span all;
    }
