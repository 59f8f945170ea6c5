use Rattle.spi_term.specs.Spelling.{spelled}
use Rattle.spi_workbench.proofs.Rows.{type_copied}
use Rattle.spi_workbench.proofs.behind.types_before.Goals as goal

pub loop-id-preserved : goal.loop-id-preserved
loop-id-preserved c =
    type_copied c.loop-id.id (spelled c.args.whole.now.names c.args.whole.now.process) _ c.loop-id.types.items c.push.new.self.items _ c.node.ensures c.in_ok-made_at.ensures c.in_ok-push.ensures.items c.loop-id.invariant
