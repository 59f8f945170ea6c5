use Rattle.std.proofs.Common.{ap, subst}
use Rattle.spi_term.specs.View.{shape_of_form}
use Rattle.spi_term.proofs.Choices.{on_ok}
use Rattle.spi_infer.specs.Terms.{AreTermsOf}
use Rattle.spi_infer.proofs.Bound.{entered_as}
use Rattle.spi_infer.proofs.binding.enter.Goals as goal

pub returns-in-Split-clause-bound : goal.returns-in-Split-clause-bound
returns-in-Split-clause-bound c =
    let q = ap (shape_of_form c.args.node.now.scope) c.in-Split.is in
    let w = subst (λ x. AreTermsOf c.args.judge.now x c.args.terms) q c.requires.terms in
    entered_as c.args.judge.now c.enter_split.new.judge q c.enter_split.result (on_ok c.enter_split.result (λ f. f _ _ w.ty w.second) c.enter_split.ensures.bound)

pub returns-in-Select-clause-bound : goal.returns-in-Select-clause-bound
returns-in-Select-clause-bound c =
    let q = ap (shape_of_form c.args.node.now.scope) c.in-Select.is in
    let w = subst (λ x. AreTermsOf c.args.judge.now x c.args.terms) q c.requires.terms in
    entered_as c.args.judge.now c.bind_opened.new.judge q c.bind_opened.result (on_ok c.bind_opened.result (λ f. f _ _ w.second w.other) c.bind_opened.ensures.bound)
