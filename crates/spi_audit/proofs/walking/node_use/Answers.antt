use Rattle.std.proofs.Common.{ap, subst, length, Option, arith}
use Rattle.spi_term.specs.Spelling.{spelled}
use Rattle.spi_term.specs.View.{shape_of}
use Rattle.spi_term.proofs.Numbers.{small_node}
use Rattle.spi_term.proofs.Places.{scope_of_shape}
use Rattle.spi_message.proofs.Standing.{stand_length}
use Rattle.spi_audit.specs.declared.asked.Premises.{Premises}
use Rattle.spi_audit.specs.Fits.{plain}
use Rattle.spi_audit.specs.Asked.{AnswersNode}
use Rattle.spi_audit.proofs.WalkUses.{node_of, node_misfits, node_fits}
use Rattle.spi_audit.proofs.walking.node_use.Goals as goal

pub node_premises-requires-clause-small : goal.node_premises-requires-clause-small
node_premises-requires-clause-small c =
    (small_node c.args.process.now.names c.args.process.now.process c.args.id (shape_of c.node-node.result.now) c.len.ensures.small c.node-node.ensures).0

pub node_premises-requires-clause-room : goal.node_premises-requires-clause-room
node_premises-requires-clause-room c =
    let few = (small_node c.args.process.now.names c.args.process.now.process c.args.id (shape_of c.node-node.result.now) c.len.ensures.small c.node-node.ensures).1 in
    omega (arith, few, (node_of c.requires.placed.located c.node-node.ensures).scope, stand_length c.requires.placed.stands)

pub note_node-requires-clause-scope : goal.note_node-requires-clause-scope
note_node-requires-clause-scope c =
    omega (arith, scope_of_shape c.node-node.result.now, (node_of c.requires.placed.located c.node-node.ensures).scope, stand_length c.requires.placed.stands, ap length c.in_ok-node_premises.ensures.kept.types)

pub returns-in-None-clause-answer : goal.returns-in-None-clause-answer
returns-in-None-clause-answer c =
    node_misfits c.args.judge.now c.node_premises.new.judge c.args.keys.now (spelled c.args.process.now.names c.args.process.now.process) c.args.rule c.args.id (shape_of c.node-node.result.now) c.node-node.ensures
    (subst (λ (o : Option Premises). AnswersNode c.args.judge.now c.node_premises.new.judge (plain c.args.rule) (shape_of c.node-node.result.now) o) c.in-None.is c.in_ok-node_premises.ensures.answer)

pub returns-in_ok-note-in-Some-clause-answer : goal.returns-in_ok-note-in-Some-clause-answer
returns-in_ok-note-in-Some-clause-answer c =
    node_fits c.args.judge.now c.node_premises.new.judge c.note_node.new.judge c.note_node.new.keys (spelled c.args.process.now.names c.args.process.now.process) c.args.rule c.args.id (shape_of c.node-node.result.now) c.in-Some.premises c.in_ok-note-in-Some.note c.node-node.ensures c.in_ok-node_premises.ensures.kept c.in_ok-note-in-Some.ensures.kept
    (subst (λ (o : Option Premises). AnswersNode c.args.judge.now c.node_premises.new.judge (plain c.args.rule) (shape_of c.node-node.result.now) o) c.in-Some.is c.in_ok-node_premises.ensures.answer) c.in_ok-note-in-Some.ensures.note
