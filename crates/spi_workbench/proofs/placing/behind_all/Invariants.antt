use Rattle.std.proofs.Common.{◌≡◌, length, map}
use Rattle.spi_tree.specs.Views.{proc_of}
use Rattle.spi_heading.specs.Views.{shared_of}
use Rattle.spi_workbench.specs.Reading.{behind_shared}
use Rattle.spi_workbench.proofs.placing.behind_all.Given as goal

abbrev pub invariant-loop-last : goal.invariant-loop-last
invariant-loop-last l = behind_shared (map shared_of l.shared.items) (proc_of l.process) ≡ behind_shared (map shared_of l.fn.shared.items) (proc_of l.fn.then)

abbrev pub decreases-loop-last : goal.decreases-loop-last
decreases-loop-last l = length l.shared.items
