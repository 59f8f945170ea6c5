use Rattle.std.proofs.Common.{arith, sym, ◌∙◌}
use Rattle.spi_replay.proofs.Awaiting.{waits_tell}
use Rattle.spi_replay.proofs.Stepped.{refuse_place, refuse_still, refuse_large_by, refuse_many_by}
use Rattle.spi_replay.proofs.running.may_act.Goals as goal

pub returns-then-place-len-clause-refused : goal.returns-then-place-len-clause-refused
returns-then-place-len-clause-refused c = refuse_place c.args.state.now.store.messages c.args.state.now.links.items c.args.state.now.index.places.items c.args.state.now.names c.args.state.now.most c.args.place (omega arith)

pub returns-then-not-is_act-clause-refused : goal.returns-then-not-is_act-clause-refused
returns-then-not-is_act-clause-refused c = refuse_still c.args.state.now.store.messages c.args.state.now.links.items c.args.state.now.index.places.items c.args.state.now.names c.args.state.now.most c.args.place c.at-wait.ensures (c.requires.places.each c.args.place c.at-wait.result c.at-wait.ensures) (sym c.is_act.ensures ∙ c.if-not-is_act.true)

pub largest_of-nodes-requires : goal.largest_of-nodes-requires
largest_of-nodes-requires c = (waits_tell (c.requires.places.each c.args.place c.at-wait.result c.at-wait.ensures).waits).within

pub returns-then-nodes-gt-MESSAGE_MOST-clause-refused : goal.returns-then-nodes-gt-MESSAGE_MOST-clause-refused
returns-then-nodes-gt-MESSAGE_MOST-clause-refused c = refuse_large_by c.args.state.now.store.messages c.args.state.now.links.items c.args.state.now.index.places.items c.args.state.now.names c.args.state.now.most c.args.place _ c.at-wait.ensures (c.requires.places.each c.args.place c.at-wait.result c.at-wait.ensures) (sym c.is_act.ensures ∙ c.if-not-is_act.false) c.largest_of-nodes.ensures (omega arith)

pub returns-then-places-state-clause-refused : goal.returns-then-places-state-clause-refused
returns-then-places-state-clause-refused c = refuse_many_by c.args.state.now.store.messages c.args.state.now.links.items c.args.state.now.index.places.items c.args.state.now.names c.args.state.now.most c.args.place _ c.at-wait.ensures (c.requires.places.each c.args.place c.at-wait.result c.at-wait.ensures) (sym c.is_act.ensures ∙ c.if-not-is_act.false) (omega (arith, c.largest_of-nodes.ensures)) (omega arith) (omega arith)

pub returns-clause-may : goal.returns-clause-may
returns-clause-may c = record { place = c.at-wait.result; there = c.at-wait.ensures; acts = sym c.is_act.ensures ∙ c.if-not-is_act.false; small = omega (arith, c.largest_of-nodes.ensures); few = omega arith }
