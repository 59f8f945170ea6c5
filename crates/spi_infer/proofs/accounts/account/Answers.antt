use Rattle.std.proofs.Common.{◌-◌, sym, ◌∙◌, arith}
use Rattle.spi_term.specs.View.{shape_of}
use Rattle.spi_term.proofs.Numbers.{small_node}
use Rattle.spi_infer.proofs.Walked.{notes_for_each, at_from, note_given, tops_after, stuck_at, stuck_here, stuck_later, starts, starts_stuck}
use Rattle.spi_infer.proofs.Ending.{ends_with, ends_stuck, ends_not_empty}
use Rattle.spi_infer.proofs.accounts.account.Goals as goal

pub loop-id-init : goal.loop-id-init
loop-id-init c = record {
  within = omega (arith, c.requires.from, c.len-id.ensures.nodes);
  stack_is = λ env h. starts c.args.store.now c.args.noted.now.keys c.args.process.now.names c.args.process.now.process _ c.len-id.result c.new-stack.result.items c.len-id.ensures.nodes c.new-stack.ensures.items;
  stuck_is = λ env h. starts_stuck c.args.process.now.names c.args.process.now.process _ c.len-id.result c.len-id.ensures.nodes;
}

pub index-note-requires : goal.index-note-requires
index-note-requires c =
    omega (arith, notes_for_each c.requires.noted.1 c.len-id.ensures.nodes, c.args.noted.now.notes.ok.0, c.loop-id-test.true, c.loop-id.auto.id)

pub act_on-requires-clause-scope : goal.act_on-requires-clause-scope
act_on-requires-clause-scope c =
    (small_node c.args.process.now.names c.args.process.now.process (c.loop-id.id - 1) (shape_of c.node-node.result.now) c.len-id.ensures.small c.node-node.ensures).1

pub act_on-requires-clause-own : goal.act_on-requires-clause-own
act_on-requires-clause-own c =
    note_given c.args.store.now c.args.noted.now c.args.process.now.names c.args.process.now.process c.requires.noted.0 c.requires.noted.1 (c.loop-id.id - 1) (shape_of c.node-node.result.now) c.node-node.ensures c.index-note.result.now c.index-note.ensures

pub loop-id-preserved : goal.loop-id-preserved
loop-id-preserved c = record {
  within = omega (arith, c.loop-id-test.true);
  stack_is = λ env h. tops_after c.args.store.now c.args.noted.now c.args.process.now.names c.args.process.now.process env h (c.loop-id.id - 1) (shape_of c.node-node.result.now) c.node-node.ensures c.index-note.result.now c.index-note.ensures c.distinct.ensures.differ c.len-id.ensures.over c.loop-id.id (omega (arith, c.loop-id-test.true)) c.loop-id.stack.items c.act_on.new.stack.items (c.loop-id.invariant.stack_is env h) c.in_ok-act_on.ensures.stack;
  stuck_is = λ env h.
      let stuck = stuck_at c.args.store.now c.args.noted.now c.args.process.now.names c.args.process.now.process env h (c.loop-id.id - 1) (shape_of c.node-node.result.now) c.node-node.ensures c.index-note.result.now c.index-note.ensures c.distinct.ensures.differ c.len-id.ensures.over c.loop-id.id (omega (arith, c.loop-id-test.true)) c.loop-id.stack.items c.in_ok-act_on.field-0 (c.loop-id.invariant.stack_is env h) c.in_ok-act_on.ensures.stuck in
      stuck_later c.args.store.now c.args.noted.now c.args.process.now.names c.args.process.now.process env h (c.loop-id.id - 1) (shape_of c.node-node.result.now) c.node-node.ensures c.index-note.result.now c.index-note.ensures c.distinct.ensures.differ c.len-id.ensures.over c.loop-id.id (omega (arith, c.loop-id-test.true)) c.in_ok-act_on.field-0 c.loop-id.stuck stuck c.if-branch.false (c.loop-id.invariant.stuck_is env h);
}

pub loop-id-preserved-then-branch : goal.loop-id-preserved-then-branch
loop-id-preserved-then-branch c = record {
  within = omega (arith, c.loop-id-test.true);
  stack_is = λ env h. tops_after c.args.store.now c.args.noted.now c.args.process.now.names c.args.process.now.process env h (c.loop-id.id - 1) (shape_of c.node-node.result.now) c.node-node.ensures c.index-note.result.now c.index-note.ensures c.distinct.ensures.differ c.len-id.ensures.over c.loop-id.id (omega (arith, c.loop-id-test.true)) c.loop-id.stack.items c.act_on.new.stack.items (c.loop-id.invariant.stack_is env h) c.in_ok-act_on.ensures.stack;
  stuck_is = λ env h.
      let stuck = stuck_at c.args.store.now c.args.noted.now c.args.process.now.names c.args.process.now.process env h (c.loop-id.id - 1) (shape_of c.node-node.result.now) c.node-node.ensures c.index-note.result.now c.index-note.ensures c.distinct.ensures.differ c.len-id.ensures.over c.loop-id.id (omega (arith, c.loop-id-test.true)) c.loop-id.stack.items c.in_ok-act_on.field-0 (c.loop-id.invariant.stack_is env h) c.in_ok-act_on.ensures.stuck in
      stuck_here c.args.store.now c.args.noted.now c.args.process.now.names c.args.process.now.process env h (c.loop-id.id - 1) (shape_of c.node-node.result.now) c.node-node.ensures c.index-note.result.now c.index-note.ensures c.distinct.ensures.differ c.len-id.ensures.over c.loop-id.id (omega (arith, c.loop-id-test.true)) c.in_ok-act_on.field-0 stuck c.if-branch.true;
}

pub returns-in-Some-clause-effect : goal.returns-in-Some-clause-effect
returns-in-Some-clause-effect c env e q h n =
    ends_with c.args.store.now c.args.noted.now c.args.process.now.names c.args.process.now.process env h c.args.from e q n c.loop-id.id (at_from c.loop-id.invariant.within c.loop-id-test.false) c.loop-id.stack.items (c.loop-id.invariant.stack_is env h) c.pop.new.self.items c.in-Some.pile c.in-Some.ensures.items

pub returns-in-Some-clause-stuck : goal.returns-in-Some-clause-stuck
returns-in-Some-clause-stuck c env h =
    ends_stuck c.args.process.now.names c.args.process.now.process env c.args.from c.loop-id.id (at_from c.loop-id.invariant.within c.loop-id-test.false) c.loop-id.stuck (c.loop-id.invariant.stuck_is env h)

pub returns-clause-effect : goal.returns-clause-effect
returns-clause-effect c env e q h n =
    absurd (ends_not_empty c.args.store.now c.args.noted.now c.args.process.now.names c.args.process.now.process env h c.args.from e q n c.loop-id.id (at_from c.loop-id.invariant.within c.loop-id-test.false) c.loop-id.stack.items (c.loop-id.invariant.stack_is env h) (sym c.loop-id.stack.ok.0 ∙ c.in-None.ensures.cases.0))

pub returns-clause-stuck : goal.returns-clause-stuck
returns-clause-stuck c env h =
    ends_stuck c.args.process.now.names c.args.process.now.process env c.args.from c.loop-id.id (at_from c.loop-id.invariant.within c.loop-id-test.false) c.loop-id.stuck (c.loop-id.invariant.stuck_is env h)
