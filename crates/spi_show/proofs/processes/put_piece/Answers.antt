use Rattle.std.proofs.Common.{arith}
use Rattle.spi_term.specs.View.{shape_of}
use Rattle.spi_term.proofs.Numbers.{small_node}
use Rattle.spi_term.proofs.Places.{scope_of_shape}
use Rattle.spi_show.specs.Pieces.{standing}
use Rattle.spi_show.proofs.Passing.{no_node_past, none_put}
use Rattle.spi_show.proofs.processes.put_piece.Goals as goal

pub returns-else-id-nodes : goal.returns-else-id-nodes
returns-else-id-nodes c = rw c.in-Process.is (none_put (standing c.in-Process.at) (no_node_past c.args.process.now.names c.args.process.now.process c.args.id (omega (arith, c.if-id-nodes.false, c.requires.nodes))))

pub put_head-requires-clause-small : goal.put_head-requires-clause-small
put_head-requires-clause-small c = (small_node c.args.process.now.names c.args.process.now.process c.args.id (shape_of c.node-node.result.now) c.requires.small c.node-node.ensures).0

pub put_head-requires-clause-few : goal.put_head-requires-clause-few
put_head-requires-clause-few c =
    omega (arith, (small_node c.args.process.now.names c.args.process.now.process c.args.id (shape_of c.node-node.result.now) c.requires.small c.node-node.ensures).1, scope_of_shape c.node-node.result.now)

pub put_off-requires-clause-small : goal.put_off-requires-clause-small
put_off-requires-clause-small c = (small_node c.args.process.now.names c.args.process.now.process c.args.id (shape_of c.node-node.result.now) c.requires.small c.node-node.ensures).0

pub put_off-requires-clause-few : goal.put_off-requires-clause-few
put_off-requires-clause-few c =
    omega (arith, (small_node c.args.process.now.names c.args.process.now.process c.args.id (shape_of c.node-node.result.now) c.requires.small c.node-node.ensures).1, scope_of_shape c.node-node.result.now)
