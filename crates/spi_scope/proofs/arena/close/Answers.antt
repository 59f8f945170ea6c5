use Rattle.spi_term.specs.View.{shape_of}
use Rattle.spi_scope.proofs.Nesting.{map_set}
use Rattle.spi_scope.proofs.arena.close.Goals as goal

pub returns-clause-nodes : goal.returns-clause-nodes
returns-clause-nodes c = rw c.put.ensures (map_set shape_of c.args.arena.now.nodes.items c.args.at _)
