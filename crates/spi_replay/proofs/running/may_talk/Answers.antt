use Rattle.std.proofs.Common.{arith, sym}
use Rattle.spi_replay.proofs.Stepped.{refuse_out, refuse_inp, refuse_apart, refuse_talk_large_by, refuse_talk_many_by, datum_below}
use Rattle.spi_replay.proofs.running.may_talk.Goals as goal

pub returns-then-out-len-clause-refused : goal.returns-then-out-len-clause-refused
returns-then-out-len-clause-refused c = refuse_out c.args.state.now.store.messages c.args.state.now.links.items c.args.state.now.index.places.items c.args.state.now.names c.args.state.now.most c.args.out c.args.inp (omega arith)

pub returns-then-inp-len-clause-refused : goal.returns-then-inp-len-clause-refused
returns-then-inp-len-clause-refused c = refuse_inp c.args.state.now.store.messages c.args.state.now.links.items c.args.state.now.index.places.items c.args.state.now.names c.args.state.now.most c.args.out c.args.inp (omega arith) (omega arith)

pub returns-in-None-clause-refused : goal.returns-in-None-clause-refused
returns-in-None-clause-refused c = refuse_apart c.args.state.now.store.messages c.args.state.now.links.items c.args.state.now.index.places.items c.args.state.now.names c.args.state.now.most c.args.out c.args.inp c.at.ensures c.at-2.ensures c.requires.places c.distinct.ensures.differ.messages (sym c.in-None.ensures)

pub nodes_of-nodes-requires : goal.nodes_of-nodes-requires
nodes_of-nodes-requires c = datum_below c.args.out c.args.inp c.in-Some.meeting c.at.ensures c.at-2.ensures c.requires.places (sym c.in-Some.ensures)

pub returns-then-nodes-gt-MESSAGE_MOST-clause-refused : goal.returns-then-nodes-gt-MESSAGE_MOST-clause-refused
returns-then-nodes-gt-MESSAGE_MOST-clause-refused c = refuse_talk_large_by c.args.state.now.store.messages c.args.state.now.links.items c.args.state.now.index.places.items c.args.state.now.names c.args.state.now.most c.args.out c.args.inp c.in-Some.meeting _ c.at.ensures c.at-2.ensures c.requires.places (sym c.in-Some.ensures) c.nodes_of-nodes.ensures (omega arith)

pub returns-then-places-state-clause-refused : goal.returns-then-places-state-clause-refused
returns-then-places-state-clause-refused c = refuse_talk_many_by c.args.state.now.store.messages c.args.state.now.links.items c.args.state.now.index.places.items c.args.state.now.names c.args.state.now.most c.args.out c.args.inp c.in-Some.meeting _ c.at.ensures c.at-2.ensures c.requires.places (sym c.in-Some.ensures) (omega (arith, c.nodes_of-nodes.ensures)) (omega arith) (omega arith)

pub returns-else-places-state-clause-may : goal.returns-else-places-state-clause-may
returns-else-places-state-clause-may c = record { out = c.at.result; inp = c.at-2.result; out_there = c.at.ensures; inp_there = c.at-2.ensures; meet = sym c.in-Some.ensures; small = omega (arith, c.nodes_of-nodes.ensures); few = omega arith }
