use Rattle.std.proofs.Common.{ap, subst}
use Rattle.spi_term.specs.View.{shape_of_form}
use Rattle.spi_term.proofs.Choices.{if_ok}
use Rattle.spi_infer.specs.Terms.{AreTermsOf}
use Rattle.spi_infer.proofs.Asked.{fine_as}
use Rattle.spi_infer.proofs.asking.is_form_ok.Goals as goal

pub returns-in-Send-clause-answer : goal.returns-in-Send-clause-answer
returns-in-Send-clause-answer c =
    let q = ap (shape_of_form c.args.node.now.scope) c.in-Send.is in
    let w = subst (λ x. AreTermsOf c.args.judge.now x c.args.terms) q c.requires.terms in
    fine_as c.args.judge.now q c.are_untrusted.result (if_ok c.are_untrusted.result (λ b f. f _ _ w.message w.other) c.are_untrusted.ensures.answer)

pub returns-in-Recv-clause-answer : goal.returns-in-Recv-clause-answer
returns-in-Recv-clause-answer c =
    let q = ap (shape_of_form c.args.node.now.scope) c.in-Recv.is in
    let w = subst (λ x. AreTermsOf c.args.judge.now x c.args.terms) q c.requires.terms in
    fine_as c.args.judge.now q c.is_input_ok.result (if_ok c.is_input_ok.result (λ b f. f _ w.message) c.is_input_ok.ensures.answer)

pub returns-in-Serve-clause-answer : goal.returns-in-Serve-clause-answer
returns-in-Serve-clause-answer c =
    let q = ap (shape_of_form c.args.node.now.scope) c.in-Serve.is in
    let w = subst (λ x. AreTermsOf c.args.judge.now x c.args.terms) q c.requires.terms in
    fine_as c.args.judge.now q c.is_input_ok-in-Serve.result (if_ok c.is_input_ok-in-Serve.result (λ b f. f _ w.message) c.is_input_ok-in-Serve.ensures.answer)

pub returns-in-Split-clause-answer : goal.returns-in-Split-clause-answer
returns-in-Split-clause-answer c =
    let q = ap (shape_of_form c.args.node.now.scope) c.in-Split.is in
    let w = subst (λ x. AreTermsOf c.args.judge.now x c.args.terms) q c.requires.terms in
    fine_as c.args.judge.now q c.is_split_ok.result (if_ok c.is_split_ok.result (λ b f. f _ w.message) c.is_split_ok.ensures.answer)

pub returns-in-Select-clause-answer : goal.returns-in-Select-clause-answer
returns-in-Select-clause-answer c =
    let q = ap (shape_of_form c.args.node.now.scope) c.in-Select.is in
    let w = subst (λ x. AreTermsOf c.args.judge.now x c.args.terms) q c.requires.terms in
    fine_as c.args.judge.now q c.is_select_ok.result (if_ok c.is_select_ok.result (λ b f. f _ _ w.message w.other) (rw c.deref.ensures at c.is_select_ok.ensures.answer))

pub returns-in-Branch-clause-answer : goal.returns-in-Branch-clause-answer
returns-in-Branch-clause-answer c =
    let q = ap (shape_of_form c.args.node.now.scope) c.in-Branch.is in
    let w = subst (λ x. AreTermsOf c.args.judge.now x c.args.terms) q c.requires.terms in
    fine_as c.args.judge.now q c.is_branch_ok.result (if_ok c.is_branch_ok.result (λ b f. f _ w.message) c.is_branch_ok.ensures.answer)

pub returns-in-Decrypt-clause-answer : goal.returns-in-Decrypt-clause-answer
returns-in-Decrypt-clause-answer c =
    let q = ap (shape_of_form c.args.node.now.scope) c.in-Decrypt.is in
    let w = subst (λ x. AreTermsOf c.args.judge.now x c.args.terms) q c.requires.terms in
    fine_as c.args.judge.now q c.is_decrypt_ok.result (if_ok c.is_decrypt_ok.result (λ b f. f _ _ w.message w.other) c.is_decrypt_ok.ensures.answer)

pub returns-in-Check-clause-answer : goal.returns-in-Check-clause-answer
returns-in-Check-clause-answer c =
    let q = ap (shape_of_form c.args.node.now.scope) c.in-Check.is in
    let w = subst (λ x. AreTermsOf c.args.judge.now x c.args.terms) q c.requires.terms in
    fine_as c.args.judge.now q c.is_check_ok.result (if_ok c.is_check_ok.result (λ b f. f _ w.message) c.is_check_ok.ensures.answer)

pub returns-in-Begin-clause-answer : goal.returns-in-Begin-clause-answer
returns-in-Begin-clause-answer c =
    let q = ap (shape_of_form c.args.node.now.scope) c.in-Begin.is in
    let w = subst (λ x. AreTermsOf c.args.judge.now x c.args.terms) q c.requires.terms in
    fine_as c.args.judge.now q c.is_labelled.result (if_ok c.is_labelled.result (λ b f. f _ w.message) c.is_labelled.ensures.answer)

pub returns-in-End-clause-answer : goal.returns-in-End-clause-answer
returns-in-End-clause-answer c =
    let q = ap (shape_of_form c.args.node.now.scope) c.in-End.is in
    let w = subst (λ x. AreTermsOf c.args.judge.now x c.args.terms) q c.requires.terms in
    fine_as c.args.judge.now q c.is_labelled-in-End.result (if_ok c.is_labelled-in-End.result (λ b f. f _ w.message) c.is_labelled-in-End.ensures.answer)

pub returns-in-EndMany-clause-answer : goal.returns-in-EndMany-clause-answer
returns-in-EndMany-clause-answer c =
    let q = ap (shape_of_form c.args.node.now.scope) c.in-EndMany.is in
    let w = subst (λ x. AreTermsOf c.args.judge.now x c.args.terms) q c.requires.terms in
    fine_as c.args.judge.now q c.is_labelled-in-EndMany.result (if_ok c.is_labelled-in-EndMany.result (λ b f. f _ w.message) c.is_labelled-in-EndMany.ensures.answer)

pub returns-in-Cast-clause-answer : goal.returns-in-Cast-clause-answer
returns-in-Cast-clause-answer c =
    let q = ap (shape_of_form c.args.node.now.scope) c.in-Cast.is in
    let w = subst (λ x. AreTermsOf c.args.judge.now x c.args.terms) q c.requires.terms in
    fine_as c.args.judge.now q c.is_cast_ok.result (if_ok c.is_cast_ok.result (λ b f. f _ w.message) c.is_cast_ok.ensures.answer)
