use Rattle.std.proofs.Common.{◌≡◌, ◌+◌, ◌++◌, ◌∷◌, [], length, length-append, ap, sym, ◌∙◌, arith, List}
use Rattle.spi_term.specs.Term.{Ty, name}
use Rattle.spi_term.specs.Substitution.{ty_put}
use Rattle.spi_term.specs.Spelling.{ty_nodes}
use Rattle.spi_term.specs.View.{ty}
use Rattle.spi_message.specs.Tests.{scope_of_types}
use Rattle.spi_message.specs.Tests.{good}
use Rattle.spi_message.proofs.Deciding.{good_first_bad, good_first_good, nodes_put_ty}
use Rattle.spi_message.proofs.Types.{scope_length, scope_push}
use Rattle.spi_message.proofs.scoped.+is_good_type.Goals as goal

pub returns-then-not-branch-clause-answer : goal.returns-then-not-branch-clause-answer
returns-then-not-branch-clause-answer t c =
    let e = scope_of_types c.args.env.now c.args.inner.now.items in
    good_first_bad e (ty c.in-Pair.two.value.first) (ty c.in-Pair.two.value.second) c.in_ok-is_good_type-in-Pair.field-0 (c.in_ok-is_good_type-in-Pair.ensures.answer ∙ ap (λ v. good e (ty v.first)) c.deref.ensures) c.if-not-branch.true
    ∙ ap (λ t. good e (ty t)) (sym c.in-Pair.is)

pub is_good_type-requires-in-Pair : goal.is_good_type-requires-in-Pair
is_good_type-requires-in-Pair t c =
    let n1 : ty_nodes (ty c.in_ok-under-in-Pair.under) ≡ ty_nodes (ty c.in-Pair.two.value.second)
    = ap ty_nodes (c.in_ok-under-in-Pair.ensures ∙ ap (λ t. ty_put (name (length c.args.env.now + c.len-count.result)) (ty t.second)) c.deref-in-Pair.ensures) ∙ nodes_put_ty (ty c.in-Pair.two.value.second) 0 (length c.args.env.now + c.len-count.result) in
    let n2 = ap (λ t. ty_nodes (ty t)) c.in-Pair.is in
    let n3 = ap length c.in_ok-push-in-Pair.ensures.items in
    let n4 = ap length c.in_ok-is_good_type-in-Pair.ensures.inner in
    (omega (arith, n1, n2, c.decreases), omega (arith, n1, n2, n3, n4, length-append c.is_good_type.new.inner.items (c.in_ok-outer-in-Pair.outer ∷ []), c.requires))

pub returns-in_ok-answer-in-Pair-clause-answer : goal.returns-in_ok-answer-in-Pair-clause-answer
returns-in_ok-answer-in-Pair-clause-answer t c =
    let e : List Ty = scope_of_types c.args.env.now c.args.inner.now.items in
    let one : c.in_ok-is_good_type-in-Pair.field-0 ≡ good e (ty c.in-Pair.two.value.first)
    = c.in_ok-is_good_type-in-Pair.ensures.answer ∙ ap (λ v. good e (ty v.first)) c.deref.ensures in
    let f1 : scope_of_types c.args.env.now c.push.new.self.items ≡ e ++ ty c.in-Pair.two.value.first ∷ []
    = ap (scope_of_types c.args.env.now) c.in_ok-push-in-Pair.ensures.items ∙ scope_push c.args.env.now c.is_good_type.new.inner.items c.in_ok-outer-in-Pair.outer ∙ ap (λ l. scope_of_types c.args.env.now l ++ ty c.in_ok-outer-in-Pair.outer ∷ []) c.in_ok-is_good_type-in-Pair.ensures.inner ∙ ap (λ k. e ++ k ∷ []) (c.in_ok-outer-in-Pair.ensures ∙ ap (λ v. ty v.first) c.deref-in-Pair-2.ensures) in
    let f2 : length c.args.env.now + c.len-count.result ≡ length e
    = ap (λ n. length c.args.env.now + n) (c.len-count.ensures ∙ c.is_good_type.new.inner.ok.0 ∙ ap length c.in_ok-is_good_type-in-Pair.ensures.inner) ∙ sym (scope_length c.args.env.now c.args.inner.now.items) in
    let f3 : ty c.in_ok-under-in-Pair.under ≡ ty_put (name (length e)) (ty c.in-Pair.two.value.second)
    = c.in_ok-under-in-Pair.ensures ∙ ap (λ n. ty_put (name n) (ty c.deref-in-Pair.result.now.second)) f2 ∙ ap (λ t. ty_put (name (length e)) (ty t.second)) c.deref-in-Pair.ensures in
    good_first_good e (ty c.in-Pair.two.value.first) (ty c.in-Pair.two.value.second) c.in_ok-is_good_type-in-Pair.field-0 c.in_ok-answer-in-Pair.answer one c.if-not-branch.false (c.in_ok-answer-in-Pair.ensures.answer ∙ ap (λ l. good l (ty c.in_ok-under-in-Pair.under)) f1 ∙ ap (good (e ++ ty c.in-Pair.two.value.first ∷ [])) f3)
    ∙ ap (λ t. good e (ty t)) (sym c.in-Pair.is)
