use Rattle.std.proofs.Common.{map, ap, ◌∙◌}
use Rattle.std.specs.Prelude.{slice_set}
use Rattle.spi_term.specs.View.{shape_of}
use Rattle.spi_scope.proofs.Nesting.{map_set}
use Rattle.spi_scope.proofs.arena.close_pair.Goals as goal

pub returns-clause-nodes : goal.returns-clause-nodes
returns-clause-nodes c =
    let nodes = c.args.arena.now.nodes.items in
    map_set shape_of nodes c.args.at c.write_pair.new.node ∙ ap (slice_set (map shape_of nodes) c.args.at) c.write_pair.ensures
