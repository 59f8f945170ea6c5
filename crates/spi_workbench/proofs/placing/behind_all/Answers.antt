use Rattle.std.proofs.Common.{◌∙◌}
use Rattle.spi_tree.specs.Views.{proc_of}
use Rattle.spi_workbench.proofs.Placed.{popped}
use Rattle.spi_workbench.proofs.placing.behind_all.Goals as goal

pub loop-last-preserved : goal.loop-last-preserved
loop-last-preserved c =
    popped c.loop-last.shared.items c.pop.new.self.items c.in-Some.last (proc_of c.loop-last.process) (proc_of c.in_ok-process.process) c.in-Some.ensures.items c.in_ok-process.ensures ∙ c.loop-last.invariant
