use Rattle.std.proofs.Common.{◌≡◌, ◌≤◌, ℕ, Option, Some, None, length, arith}
use Rattle.spi_term.specs.Spelling.{spelled, HasSmallParts}
use Rattle.spi_term.specs.Arena.{scope_of}
use Rattle.spi_term.specs.View.{shape_of}
use Rattle.spi_term.proofs.Numbers.{small_node, length_spelled}
use Rattle.spi_term.proofs.Places.{scope_of_shape}
use Rattle.spi_message.proofs.Standing.{stand_length}
use Rattle.spi_infer.specs.Waiting.{CanReach}
use Rattle.spi_infer.proofs.Bound.{above_same, reaches_less}
use Rattle.spi_infer.proofs.Walks.{names_low, parts_at, later_reaches, walked_start, walked_next, walked_end}
use Rattle.spi_infer.proofs.noting.walk.Goals.{After-node-node}
use Rattle.spi_infer.proofs.noting.walk.Given.{Over}
use Rattle.spi_infer.proofs.noting.walk.Goals as goal

no_key : {k : ℕ} {o : Option ℕ} → o ≡ None → o ≡ Some k → ⊥
no_key e f = cc

node_small : (g : Over) (c : After-node-node g) → HasSmallParts (shape_of c.node-node.result.now) × (scope_of (shape_of c.node-node.result.now) ≤ 300000)
node_small g c =
    small_node c.args.process.now.names c.args.process.now.process c.loop-id.id (shape_of c.node-node.result.now) c.len-id-end.ensures.small c.node-node.ensures

node_low : (g : Over) (c : After-node-node g) → length c.args.judge.now.types ≤ scope_of (shape_of c.node-node.result.now)
node_low g c =
    omega (arith, names_low c.args.process.now.names c.args.process.now.process c.loop-id.id (shape_of c.node-node.result.now) c.node-node.ensures, c.requires.names)

can_reach : (g : Over) (c : After-node-node g) (base : ℕ) → base ≤ length c.args.judge.now.types → CanReach base c.loop-id.id c.node-node.result.now.scope c.loop-id.judge.store c.loop-id.pending.items
can_reach g c base l =
    let w = c.loop-id.invariant.walked c.requires.judge.env c.requires.judge.stands in
    let n : length c.requires.judge.env ≤ c.node-node.result.now.scope = omega (arith, node_low g c, scope_of_shape c.node-node.result.now, stand_length c.requires.judge.stands) in
    let r = later_reaches (spelled c.args.process.now.names c.args.process.now.process) (length c.requires.judge.env) c.loop-id.id c.node-node.result.now.scope (shape_of c.node-node.result.now) w.waits w.later c.node-node.ensures (scope_of_shape c.node-node.result.now) n in
    record {
      waits = w.waits;
      queued = w.queued;
      reaches = reaches_less (length c.requires.judge.env) base c.loop-id.id c.node-node.result.now.scope w.waits (omega (arith, l, stand_length c.requires.judge.stands)) r;
    }

pub visit-requires-clause-small : goal.visit-requires-clause-small
visit-requires-clause-small g c = (node_small g (goal.at.visit-requires-clause-small g c).After-node-node).0

pub visit-requires-clause-few : goal.visit-requires-clause-few
visit-requires-clause-few g c =
    omega (arith, (node_small g (goal.at.visit-requires-clause-few g c).After-node-node).1, scope_of_shape c.node-node.result.now)

pub visit-requires-clause-low : goal.visit-requires-clause-low
visit-requires-clause-low g c =
    can_reach g (goal.at.visit-requires-clause-low g c).After-node-node c.loop-id.judge.free (omega (arith, c.loop-id.invariant.above.free, c.requires.judge.within))

pub visit-requires-clause-keys : goal.visit-requires-clause-keys
visit-requires-clause-keys g c = c.loop-id.invariant.keys

pub visit-requires-clause-names : goal.visit-requires-clause-names
visit-requires-clause-names g c =
    let w = c.loop-id.invariant.walked c.requires.judge.env c.requires.judge.stands in
    record { env = w.env; stands = w.stands }

pub loop-id-init : goal.loop-id-init
loop-id-init g c = record {
  walked = λ e s. walked_start (spelled c.args.process.now.names c.args.process.now.process) e c.args.judge.now c.new-keys.result c.new-pending.result.items c.in_ok-notes.notes.items s c.new-pending.ensures.items c.in_ok-notes.ensures.items;
  keys = record { keyed = λ i k e. absurd (no_key (c.new-keys.ensures i) e) };
  above = above_same c.args.judge.now;
  counted = omega arith;
}

pub loop-id-preserved : goal.loop-id-preserved
loop-id-preserved g c =
    let p = c.args.process.now in
    let a = (goal.at.loop-id-preserved g c).After-node-node in
    let grows = c.in_ok-note.ensures.grows in
    let f = parts_at p.names p.process c.loop-id.id (shape_of c.node-node.result.now) c.len-id-end.ensures.over c.node-node.ensures in
    record {
      walked = λ e s. walked_next c.node-node.result.now.scope (shape_of c.node-node.result.now) c.visit.new.pending.items c.in_ok-note.note c.push.new.self.items (c.loop-id.invariant.walked e s) c.node-node.ensures (scope_of_shape c.node-node.result.now) (omega (arith, node_low g a, stand_length s)) f c.in_ok-note.ensures.note grows c.in_ok-note.ensures.rest c.in_ok-push.ensures.items;
      keys = grows.are;
      above = c.in_ok-note.ensures.above c.args.judge.now c.loop-id.invariant.above (can_reach g a (length c.args.judge.now.types) (omega arith));
      counted = omega arith;
    }

pub returns-clause-notes : goal.returns-clause-notes
returns-clause-notes g c e s =
    let past : length (spelled c.args.process.now.names c.args.process.now.process) ≤ c.loop-id.id = omega (arith, length_spelled c.args.process.now.names c.args.process.now.process, c.len-id-end.ensures.nodes, c.loop-id-test.false) in
    walked_end (c.loop-id.invariant.walked e s) past

pub returns-in_err-note-clause-above : goal.returns-in_err-note-clause-above
returns-in_err-note-clause-above g c =
    c.visit.ensures.above c.args.judge.now c.loop-id.invariant.above (can_reach g (goal.at.returns-in_err-note-clause-above g c).After-node-node (length c.args.judge.now.types) (omega arith))

pub returns-in_err-push-clause-above : goal.returns-in_err-push-clause-above
returns-in_err-push-clause-above g c =
    c.visit.ensures.above c.args.judge.now c.loop-id.invariant.above (can_reach g (goal.at.returns-in_err-push-clause-above g c).After-node-node (length c.args.judge.now.types) (omega arith))
