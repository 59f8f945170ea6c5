use Rattle.std.proofs.Common.{◌≡◌, map, drop}
use Rattle.spi_tree.specs.Views.{proc_of}
use Rattle.spi_heading.specs.Views.{shared_of}
use Rattle.spi_weave.specs.Woven.{sharing}
use Rattle.spi_weave.proofs.roles.sharing.Given as goal

abbrev pub invariant-loop-at : goal.invariant-loop-at
invariant-loop-at l = proc_of l.process ≡ sharing (map shared_of (drop l.at l.shared)) (proc_of l.fn.after)
