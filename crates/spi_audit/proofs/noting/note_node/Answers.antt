use Rattle.std.proofs.Common.{ap, refl}
use Rattle.spi_term.specs.View.{shape_of, shape_of_form}
use Rattle.spi_audit.proofs.NoteShapes.{leaf_noted, pars_noted, one_named, two_named, serves_noted, cases_noted, makes_noted, casts_noted}
use Rattle.spi_audit.proofs.noting.note_node.Goals as goal

pub returns-in-Send-clause-note : goal.returns-in-Send-clause-note
returns-in-Send-clause-note c = leaf_noted c.args.judge.now c.args.judge.now c.args.keys.now c.args.rule (shape_of c.args.node.now) c.args.node.now.scope _ (ap (shape_of_form c.args.node.now.scope) c.in-Send.is)

pub returns-in-Stop-clause-note : goal.returns-in-Stop-clause-note
returns-in-Stop-clause-note c = leaf_noted c.args.judge.now c.args.judge.now c.args.keys.now c.args.rule (shape_of c.args.node.now) c.args.node.now.scope _ (ap (shape_of_form c.args.node.now.scope) c.in-Stop.is)

pub returns-in-Recv-clause-note : goal.returns-in-Recv-clause-note
returns-in-Recv-clause-note c = one_named c.args.judge.now c.args.judge.now c.args.keys.now c.args.rule (shape_of c.args.node.now) c.args.node.now.scope c.requires.scope _ (ap (shape_of_form c.args.node.now.scope) c.in-Recv.is) (λ e. refl)

pub returns-in-Select-clause-note : goal.returns-in-Select-clause-note
returns-in-Select-clause-note c = one_named c.args.judge.now c.args.judge.now c.args.keys.now c.args.rule (shape_of c.args.node.now) c.args.node.now.scope c.requires.scope _ (ap (shape_of_form c.args.node.now.scope) c.in-Select.is) (λ e. refl)

pub returns-in-Decrypt-clause-note : goal.returns-in-Decrypt-clause-note
returns-in-Decrypt-clause-note c = one_named c.args.judge.now c.args.judge.now c.args.keys.now c.args.rule (shape_of c.args.node.now) c.args.node.now.scope c.requires.scope _ (ap (shape_of_form c.args.node.now.scope) c.in-Decrypt.is) (λ e. refl)

pub returns-in-Serve-clause-note : goal.returns-in-Serve-clause-note
returns-in-Serve-clause-note c = serves_noted c.args.judge.now c.args.judge.now c.args.keys.now c.args.rule (shape_of c.args.node.now) c.args.node.now.scope c.requires.scope _ _ _ _ (ap (shape_of_form c.args.node.now.scope) c.in-Serve.is)

pub returns-in-Split-clause-note : goal.returns-in-Split-clause-note
returns-in-Split-clause-note c = two_named c.args.judge.now c.args.judge.now c.args.keys.now c.args.rule (shape_of c.args.node.now) c.args.node.now.scope c.requires.scope _ _ _ _ _ (ap (shape_of_form c.args.node.now.scope) c.in-Split.is)

pub returns-in-Branch-clause-note : goal.returns-in-Branch-clause-note
returns-in-Branch-clause-note c = cases_noted c.args.judge.now c.args.judge.now c.args.keys.now c.args.rule (shape_of c.args.node.now) c.args.node.now.scope c.requires.scope _ _ _ _ _ _ (ap (shape_of_form c.args.node.now.scope) c.in-Branch.is)

pub returns-in-Par-clause-note : goal.returns-in-Par-clause-note
returns-in-Par-clause-note c = pars_noted c.args.judge.now c.args.judge.now c.args.keys.now c.args.rule (shape_of c.args.node.now) c.args.node.now.scope _ _ (ap (shape_of_form c.args.node.now.scope) c.in-Par.is)

pub returns-in-Cast-clause-note : goal.returns-in-Cast-clause-note
returns-in-Cast-clause-note c = casts_noted c.args.judge.now c.note_casts.new.judge c.note_casts.new.keys c.args.rule (shape_of c.args.node.now) c.args.node.now.scope c.requires.scope c.note_casts.result _ _ _ _ (ap (shape_of_form c.args.node.now.scope) c.in-Cast.is) c.note_casts.ensures.note

pub returns-in-Fresh-clause-note : goal.returns-in-Fresh-clause-note
returns-in-Fresh-clause-note c = makes_noted c.args.judge.now c.note_make.new.judge c.args.keys.now c.args.rule (shape_of c.args.node.now) c.args.node.now.scope c.requires.scope c.note_make.result _ _ _ (ap (shape_of_form c.args.node.now.scope) c.in-Fresh.is) c.note_make.ensures.note
