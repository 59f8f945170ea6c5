use Rattle.std.proofs.Common.{sym, ap, arith}
use Rattle.spi_show.specs.Pieces.{output_in}
use Rattle.spi_show.proofs.Passing.{no_node_past}
use Rattle.spi_show.proofs.processes.output_at.Goals as goal

pub returns-else-id-nodes : goal.returns-else-id-nodes
returns-else-id-nodes c = ap output_in (sym (no_node_past c.args.process.now.names c.args.process.now.process c.args.id (omega (arith, c.if-id-nodes.false, c.requires))))
