use Rattle.std.proofs.Common.{ap}
use Rattle.spi_term.specs.View.{message, ty, shape_of_form, shape_of}
use Rattle.spi_term.specs.Term.{Sends, Stops, Recvs, Serves, Splits, Selects, Decrypts, Checks, Begins, Ends, EndManys, Casts, Freshes, Branches, Pars}
use Rattle.spi_audit.proofs.FormChildren.{leaf_answers, prefix_answers, fork_answers, leaf_answer, fork_answer}
use Rattle.spi_audit.proofs.forms.node_premises.Goals as goal

pub returns-in-Send-clause-answer : goal.returns-in-Send-clause-answer
returns-in-Send-clause-answer c =
    leaf_answers c.args.judge.now c.of_send.new.judge c.args.rule c.args.node.now.scope (Sends (message c.in-Send.channel) (message c.in-Send.datum)) (shape_of c.args.node.now) c.of_send.result (ap (shape_of_form c.args.node.now.scope) c.in-Send.is) c.of_send.ensures.answer

pub returns-in-Recv-clause-answer : goal.returns-in-Recv-clause-answer
returns-in-Recv-clause-answer c =
    prefix_answers c.args.judge.now c.of_recv.new.judge c.args.rule c.args.node.now.scope (Recvs (message c.in-Recv.channel) (ty c.in-Recv.ty)) c.in-Recv.body (shape_of c.args.node.now) c.of_recv.result (ap (shape_of_form c.args.node.now.scope) c.in-Recv.is) c.of_recv.ensures.answer

pub returns-in-Serve-clause-answer : goal.returns-in-Serve-clause-answer
returns-in-Serve-clause-answer c =
    prefix_answers c.args.judge.now c.of_serve.new.judge c.args.rule c.args.node.now.scope (Serves (message c.in-Serve.channel) (ty c.in-Serve.ty)) c.in-Serve.body (shape_of c.args.node.now) c.of_serve.result (ap (shape_of_form c.args.node.now.scope) c.in-Serve.is) c.of_serve.ensures.answer

pub returns-in-Split-clause-answer : goal.returns-in-Split-clause-answer
returns-in-Split-clause-answer c =
    prefix_answers c.args.judge.now c.of_split.new.judge c.args.rule c.args.node.now.scope (Splits (message c.in-Split.whole) (ty c.in-Split.first) (ty c.in-Split.second)) c.in-Split.body (shape_of c.args.node.now) c.of_split.result (ap (shape_of_form c.args.node.now.scope) c.in-Split.is) c.of_split.ensures.answer

pub returns-in-Select-clause-answer : goal.returns-in-Select-clause-answer
returns-in-Select-clause-answer c =
    prefix_answers c.args.judge.now c.of_select.new.judge c.args.rule c.args.node.now.scope (Selects (message c.in-Select.whole) (ty c.in-Select.first) (message c.in-Select.equal.value) (ty c.in-Select.second.value)) c.in-Select.body (shape_of c.args.node.now) c.of_select.result (ap (shape_of_form c.args.node.now.scope) c.in-Select.is) (rw (c.deref.ensures, c.deref-in-Select.ensures) at c.of_select.ensures.answer)

pub returns-in-Branch-clause-answer : goal.returns-in-Branch-clause-answer
returns-in-Branch-clause-answer c =
    fork_answers c.args.judge.now c.of_branch.new.judge c.args.rule c.args.node.now.scope (Branches (message c.in-Branch.whole) (ty c.in-Branch.left) (ty c.in-Branch.right)) c.in-Branch.on_left c.in-Branch.on_right (shape_of c.args.node.now) c.of_branch.result (ap (shape_of_form c.args.node.now.scope) c.in-Branch.is) c.of_branch.ensures.answer

pub returns-in-Decrypt-clause-answer : goal.returns-in-Decrypt-clause-answer
returns-in-Decrypt-clause-answer c =
    prefix_answers c.args.judge.now c.of_decrypt.new.judge c.args.rule c.args.node.now.scope (Decrypts (message c.in-Decrypt.whole) (ty c.in-Decrypt.ty) (message c.in-Decrypt.key)) c.in-Decrypt.body (shape_of c.args.node.now) c.of_decrypt.result (ap (shape_of_form c.args.node.now.scope) c.in-Decrypt.is) c.of_decrypt.ensures.answer

pub returns-in-Check-clause-answer : goal.returns-in-Check-clause-answer
returns-in-Check-clause-answer c =
    prefix_answers c.args.judge.now c.of_check.new.judge c.args.rule c.args.node.now.scope (Checks (message c.in-Check.whole) (message c.in-Check.nonce)) c.in-Check.body (shape_of c.args.node.now) c.of_check.result (ap (shape_of_form c.args.node.now.scope) c.in-Check.is) c.of_check.ensures.answer

pub returns-in-Begin-clause-answer : goal.returns-in-Begin-clause-answer
returns-in-Begin-clause-answer c =
    prefix_answers c.args.judge.now c.of_begin.new.judge c.args.rule c.args.node.now.scope (Begins (message c.in-Begin.label)) c.in-Begin.body (shape_of c.args.node.now) c.of_begin.result (ap (shape_of_form c.args.node.now.scope) c.in-Begin.is) c.of_begin.ensures.answer

pub returns-in-End-clause-answer : goal.returns-in-End-clause-answer
returns-in-End-clause-answer c =
    prefix_answers c.args.judge.now c.of_end.new.judge c.args.rule c.args.node.now.scope (Ends (message c.in-End.label)) c.in-End.body (shape_of c.args.node.now) c.of_end.result (ap (shape_of_form c.args.node.now.scope) c.in-End.is) c.of_end.ensures.answer

pub returns-in-EndMany-clause-answer : goal.returns-in-EndMany-clause-answer
returns-in-EndMany-clause-answer c =
    prefix_answers c.args.judge.now c.of_end_many.new.judge c.args.rule c.args.node.now.scope (EndManys (message c.in-EndMany.label)) c.in-EndMany.body (shape_of c.args.node.now) c.of_end_many.result (ap (shape_of_form c.args.node.now.scope) c.in-EndMany.is) c.of_end_many.ensures.answer

pub returns-in-Cast-clause-answer : goal.returns-in-Cast-clause-answer
returns-in-Cast-clause-answer c =
    prefix_answers c.args.judge.now c.of_cast.new.judge c.args.rule c.args.node.now.scope (Casts (message c.in-Cast.whole) (ty c.in-Cast.ty)) c.in-Cast.body (shape_of c.args.node.now) c.of_cast.result (ap (shape_of_form c.args.node.now.scope) c.in-Cast.is) c.of_cast.ensures.answer

pub returns-in-Fresh-clause-answer : goal.returns-in-Fresh-clause-answer
returns-in-Fresh-clause-answer c =
    prefix_answers c.args.judge.now c.of_fresh.new.judge c.args.rule c.args.node.now.scope (Freshes (ty c.in-Fresh.ty)) c.in-Fresh.body (shape_of c.args.node.now) c.of_fresh.result (ap (shape_of_form c.args.node.now.scope) c.in-Fresh.is) c.of_fresh.ensures.answer

pub returns-in-Par-clause-answer : goal.returns-in-Par-clause-answer
returns-in-Par-clause-answer c = fork_answer c.args.judge.now c.args.judge.now c.args.rule c.args.node.now.scope Pars c.in-Par.first c.in-Par.rest (shape_of c.args.node.now) c.of_par.result (ap (shape_of_form c.args.node.now.scope) c.in-Par.is) c.of_par.ensures

pub returns-in-Stop-clause-answer : goal.returns-in-Stop-clause-answer
returns-in-Stop-clause-answer c = leaf_answer c.args.judge.now c.args.judge.now c.args.rule c.args.node.now.scope Stops (shape_of c.args.node.now) c.of_stop.result (ap (shape_of_form c.args.node.now.scope) c.in-Stop.is) c.of_stop.ensures
