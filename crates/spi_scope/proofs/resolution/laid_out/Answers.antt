use Rattle.std.proofs.Common.{arith}
use Rattle.spi_tree.specs.Views.{proc_of}
use Rattle.spi_scope.specs.Points.{process_points}
use Rattle.spi_scope.specs.State.{abbreviations}
use Rattle.spi_scope.proofs.Closing.{small_nodes}
use Rattle.spi_scope.proofs.Counting.{passed, process_small}
use Rattle.spi_scope.proofs.Made.{few_nodes, spells, is_over_free}
use Rattle.spi_scope.proofs.resolution.laid_out.Goals as goal

pub spelled-requires-clause-few_nodes : goal.spelled-requires-clause-few_nodes
spelled-requires-clause-few_nodes c =
    let r = few_nodes (abbreviations c.args.scope.now.types) c.args.scope.now.held.names (proc_of c.args.p.now) c.args.nodes.items c.requires.nodes c.args.count c.args.scope.now.count c.requires.ran in
    omega (arith, r, c.requires.few, c.args.nodes.ok)

pub spelled-requires-clause-small : goal.spelled-requires-clause-small
spelled-requires-clause-small c =
    let ts = abbreviations c.args.scope.now.types in
    let xs = c.args.scope.now.held.names in
    let p = proc_of c.args.p.now in
    small_nodes c.args.nodes.items _ c.requires.nodes (process_small (λ i. i) ts xs p 0 _ (passed (process_points ts xs p) c.args.count c.args.scope.now.count c.requires.ran))

pub spelled-requires-clause-spells : goal.spelled-requires-clause-spells
spelled-requires-clause-spells c =
    (_, spells (abbreviations c.args.scope.now.types) c.args.scope.now.held.names (proc_of c.args.p.now) c.args.nodes.items c.requires.nodes c.requires.over _ c.len.ensures)

pub returns : goal.returns
returns c =
    is_over_free (abbreviations c.args.scope.now.types) c.args.scope.now.held.names (proc_of c.args.p.now) c.args.nodes.items c.requires.nodes c.requires.over _ c.len.ensures _ c.spelled.ensures
