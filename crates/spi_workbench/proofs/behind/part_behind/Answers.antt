use Rattle.std.proofs.Common.{arith, ◌≡◌, ◌+◌, ◌≤◌, map, drop, length, refl, ap}
use Rattle.spi_term.specs.Spelling.{spelled}
use Rattle.spi_term.specs.View.{shape_of}
use Rattle.spi_term.proofs.Numbers.{length_spelled}
use Rattle.spi_workbench.specs.Behind.{earlier}
use Rattle.spi_workbench.proofs.Rows.{copied, few_copied, all_copied, small_copies, spells_part, stands_there}
use Rattle.spi_workbench.proofs.behind.part_behind.Goals.{After-names}
use Rattle.spi_workbench.proofs.behind.part_behind.Goals as goal

nodes_are : (c : After-names) → map shape_of c.loop-id.nodes.items ≡ map (earlier c.args.news) (drop c.args.news (spelled c.args.whole.now.names c.args.whole.now.process))
nodes_are c =
    let w = c.args.whole.now in
    let past : length (spelled w.names w.process) ≤ c.loop-id.id = omega (arith, length_spelled w.names w.process, c.len-id-end.ensures.nodes, c.loop-id-test.false) in
    all_copied c.args.news c.loop-id.id (spelled w.names w.process) c.loop-id.nodes.items past c.loop-id.invariant

pub loop-id-preserved : goal.loop-id-preserved
loop-id-preserved c =
    let ss = spelled c.args.whole.now.names c.args.whole.now.process in
    copied c.args.news c.loop-id.id ss _ c.loop-id.nodes.items c.push.new.self.items _ c.node.ensures c.in_ok-node_earlier.ensures c.in_ok-push.ensures.items c.loop-id.invariant

pub from_nodes-requires-clause-few_nodes : goal.from_nodes-requires-clause-few_nodes
from_nodes-requires-clause-few_nodes c =
    let w = c.args.whole.now in
    let few = few_copied c.args.news (spelled w.names w.process) c.loop-id.nodes.items (nodes_are (goal.at.from_nodes-requires-clause-few_nodes c).After-names) in
    omega (arith, few, length_spelled w.names w.process, c.len-id-end.ensures.small.few_nodes, c.loop-id.nodes.ok.0)

pub from_nodes-requires-clause-small : goal.from_nodes-requires-clause-small
from_nodes-requires-clause-small c =
    small_copies c.args.news (spelled c.args.whole.now.names c.args.whole.now.process) c.loop-id.nodes.items (nodes_are (goal.at.from_nodes-requires-clause-small c).After-names) c.len-id-end.ensures.small.parts

pub unreachable-requires : goal.unreachable-requires
unreachable-requires c =
    let p = c.requires.stands.0 in
    let names : c.names.result + c.args.news ≡ c.args.whole.now.names + c.args.news = ap (λ n. n + c.args.news) c.names.ensures in
    c.in-None.ensures.none refl p.process (spells_part c.args.news c.args.whole.now p c.loop-id.nodes.items (nodes_are (goal.at.unreachable-requires c).After-names) c.requires.stands.1 _ names)

pub returns : goal.returns
returns c =
    let names : c.names.result + c.args.news ≡ c.args.whole.now.names + c.args.news = ap (λ n. n + c.args.news) c.names.ensures in
    stands_there c.args.news c.args.whole.now c.in-Some.part c.loop-id.nodes.items (nodes_are (goal.at.returns c).After-names) _ names c.in-Some.ensures.some
