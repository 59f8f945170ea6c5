use Rattle.std.proofs.Common.{◌≡◌, map, drop}
use Rattle.spi_tree.specs.Views.{proc_of}
use Rattle.spi_narrate.specs.Views.{line_of}
use Rattle.spi_weave.specs.Woven.{role_process}
use Rattle.spi_weave.proofs.roles.role_process.Given as goal

abbrev pub invariant-loop-at : goal.invariant-loop-at
invariant-loop-at l = proc_of l.process ≡ role_process l.role (map line_of (drop l.at l.lines))
