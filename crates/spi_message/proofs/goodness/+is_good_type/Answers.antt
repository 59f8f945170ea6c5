use Rattle.std.proofs.Common.{arith, ap, sym, subst, ◌∙◌, ◌++◌, ◌∷◌, [], length}
use Rattle.spi_term.proofs.Choices.{on_ok}
use Rattle.spi_message.specs.Filling.{AreIdsBelow, FillsTy}
use Rattle.spi_intern.specs.Messages.{says_name}
use Rattle.spi_message.specs.Added.{TypeIsAdded}
use Rattle.spi_intern.proofs.Meanings.{terms_more}
use Rattle.spi_message.proofs.Fills.{all_below_keeps}
use Rattle.spi_message.proofs.FillsTypes.{given_keeps, size_of_kept, pair_ty_of, sum_ty_of, key_ty_of, nonce_ty_of, un_of, unit_ty_of, fills_given, depth_stands}
use Rattle.spi_message.proofs.Goods.{un_good, unit_good, key_good, nonce_good, sum_good, sum_bad, pair_good, pair_bad, asked_good_part, asked_good_later, asked_good_under, asked_atoms, name_over}
use Rattle.spi_message.proofs.Examining.{no_examining, first_examined, left_examined, payload_examined, sum_examined, nonce_examined, pair_examined}
use Rattle.spi_message.proofs.goodness.+is_good_type.Goals as goal

pub is_good_type-requires : goal.is_good_type-requires
is_good_type-requires t c =
    let w = pair_ty_of c.in-Pair.ensures c.requires.given in
    (omega (arith, w.size, c.decreases), asked_good_part c.requires w.first (omega (arith, w.size)))

pub returns-then-not-branch-clause-answer : goal.returns-then-not-branch-clause-answer
returns-then-not-branch-clause-answer t c = pair_bad (pair_ty_of c.in-Pair.ensures c.requires.given) c.in_ok-is_good_type-in-Pair.ensures.answer c.if-not-branch.true

pub message_over-requires : goal.message_over-requires
message_over-requires t c = name_over _

pub filled_type-requires-clause-ty : goal.filled_type-requires-clause-ty
filled_type-requires-clause-ty t c = given_keeps c.in_ok-name-in-Pair.ensures.kept (given_keeps c.in_ok-is_good_type-in-Pair.ensures.kept ((pair_ty_of c.in-Pair.ensures c.requires.given).first))

pub filled_type-requires-clause-values : goal.filled_type-requires-clause-values
filled_type-requires-clause-values t c =
    subst (λ us. AreIdsBelow us (length c.message_over.new.self.messages)) (sym (c.deref.ensures.value ∙ c.in_ok-is_good_type-in-Pair.ensures.values)) (all_below_keeps c.in_ok-name-in-Pair.ensures.kept.messages (all_below_keeps c.in_ok-is_good_type-in-Pair.ensures.kept.messages c.requires.values))

pub is_good_type-answer-requires : goal.is_good_type-answer-requires
is_good_type-answer-requires t c =
    let w = pair_ty_of c.in-Pair.ensures c.requires.given in
    let a = c.in_ok-is_good_type-in-Pair.ensures in
    let n = c.in_ok-name-in-Pair.ensures in
    let o = c.in_ok-outer-in-Pair.ensures in
    let k = terms_more a.kept n.kept in
    let first = given_keeps k w.first in (
      omega (arith, w.size, size_of_kept c.in-Pair.second k w.second, size_of_kept c.in-Pair.second o.kept (given_keeps k w.second), c.decreases),
      asked_good_under c.in_ok-name-in-Pair.name k c.requires w.second (omega (arith, w.size)) (n.at _ says_name) o.kept (fills_given (depth_stands (omega arith)) o.at first) (c.in_ok-push-in-Pair-2.ensures.items ∙ ap (λ is. is ++ c.in_ok-outer-in-Pair.outer ∷ []) a.names) (c.in_ok-push-in-Pair.ensures.items ∙ ap (λ us. us ++ c.in_ok-name-in-Pair.name ∷ []) a.values),
    )

pub returns-in_ok-push-in-Pair-2-clause-answer : goal.returns-in_ok-push-in-Pair-2-clause-answer
returns-in_ok-push-in-Pair-2-clause-answer t c =
    let a = c.in_ok-is_good_type-in-Pair.ensures in
    let n = c.in_ok-name-in-Pair.ensures in
    let o = c.in_ok-outer-in-Pair.ensures in
    let fills = subst (λ us. FillsTy c.message_over.new.self c.filled_type.new.store us 0 c.in-Pair.first c.in_ok-outer-in-Pair.outer) (c.deref.ensures.value ∙ a.values) o.at in
    pair_good c.in_ok-name-in-Pair.name (pair_ty_of c.in-Pair.ensures c.requires.given) a.answer c.if-not-branch.false a.kept c.requires.values n.kept (n.at _ says_name) (c.len-count.ensures ∙ c.is_good_type.new.env.ok.0 ∙ ap length a.names) o.kept fills (c.in_ok-push-in-Pair-2.ensures.items ∙ ap (λ is. is ++ c.in_ok-outer-in-Pair.outer ∷ []) a.names) (c.in_ok-push-in-Pair.ensures.items ∙ ap (λ us. us ++ c.in_ok-name-in-Pair.name ∷ []) a.values) c.is_good_type-answer.result c.is_good_type-answer.ensures.answer

pub is_good_type-requires-in-Sum : goal.is_good_type-requires-in-Sum
is_good_type-requires-in-Sum t c =
    let w = sum_ty_of c.in-Sum.ensures c.requires.given in
    (omega (arith, w.size, c.decreases), asked_good_part c.requires w.first (omega (arith, w.size)))

pub is_good_type-requires-then-branch : goal.is_good_type-requires-then-branch
is_good_type-requires-then-branch t c =
    let w = sum_ty_of c.in-Sum.ensures c.requires.given in
    let a = c.in_ok-is_good_type-in-Sum.ensures in
    (omega (arith, w.size, size_of_kept c.in-Sum.right a.kept w.second, c.decreases), asked_good_later a.kept c.requires w.second (omega (arith, w.size)) a.names a.values)

pub returns-then-branch-clause-answer : goal.returns-then-branch-clause-answer
returns-then-branch-clause-answer t c =
    let a = c.in_ok-is_good_type-in-Sum.ensures in
    sum_good (sum_ty_of c.in-Sum.ensures c.requires.given) a.answer c.if-branch.true a.kept c.requires.values a.names a.values c.is_good_type-then-branch.result c.is_good_type-then-branch.ensures.answer

pub returns-else-branch-clause-answer : goal.returns-else-branch-clause-answer
returns-else-branch-clause-answer t c = sum_bad (sum_ty_of c.in-Sum.ensures c.requires.given) c.in_ok-is_good_type-in-Sum.ensures.answer c.if-branch.false

pub is_good_type-requires-in-Key : goal.is_good_type-requires-in-Key
is_good_type-requires-in-Key t c =
    let w = key_ty_of c.in-Key.ensures c.requires.given in
    (omega (arith, w.size, c.decreases), asked_good_part c.requires w.part (omega (arith, w.size)))

pub returns-in-Key-clause-answer : goal.returns-in-Key-clause-answer
returns-in-Key-clause-answer t c = key_good _ _ (key_ty_of c.in-Key.ensures c.requires.given) c.is_good_type-in-Key.result c.is_good_type-in-Key.ensures.answer

pub are_good_atoms-requires : goal.are_good_atoms-requires
are_good_atoms-requires t c = asked_atoms c.requires ((nonce_ty_of c.in-Nonce.ensures c.requires.given).atoms) (c.deref-in-Nonce-2.ensures.value ∙ c.in_ok-atoms-in-Nonce.ensures.items_if_clones_equal (λ x y h. h)) c.deref-in-Nonce.ensures.value c.deref-in-Nonce-3.ensures.value

pub returns-in_ok-atoms-in-Nonce-clause-answer : goal.returns-in_ok-atoms-in-Nonce-clause-answer
returns-in_ok-atoms-in-Nonce-clause-answer t c = nonce_good (nonce_ty_of c.in-Nonce.ensures c.requires.given) (c.deref-in-Nonce-2.ensures.value ∙ c.in_ok-atoms-in-Nonce.ensures.items_if_clones_equal (λ x y h. h)) c.deref-in-Nonce.ensures.value c.deref-in-Nonce-3.ensures.value c.are_good_atoms.result c.are_good_atoms.ensures.answer

pub returns-in-Un-clause-answer : goal.returns-in-Un-clause-answer
returns-in-Un-clause-answer t c = un_good (un_of c.in-Un.ensures)

pub returns-in-Unit-clause-answer : goal.returns-in-Unit-clause-answer
returns-in-Unit-clause-answer t c = unit_good (unit_ty_of c.in-Unit.ensures)

pub returns-in-Un-clause-adds : goal.returns-in-Un-clause-adds
returns-in-Un-clause-adds t c = no_examining

pub returns-in-Unit-clause-adds : goal.returns-in-Unit-clause-adds
returns-in-Unit-clause-adds t c = no_examining

pub returns-then-not-branch-clause-adds : goal.returns-then-not-branch-clause-adds
returns-then-not-branch-clause-adds t c = first_examined (pair_ty_of c.in-Pair.ensures c.requires.given) c.in_ok-is_good_type-in-Pair.ensures.adds

pub returns-else-branch-clause-adds : goal.returns-else-branch-clause-adds
returns-else-branch-clause-adds t c = left_examined (sum_ty_of c.in-Sum.ensures c.requires.given) c.in_ok-is_good_type-in-Sum.ensures.adds

pub returns-then-branch-clause-adds : goal.returns-then-branch-clause-adds
returns-then-branch-clause-adds t c =
    let a = c.in_ok-is_good_type-in-Sum.ensures in
    on_ok c.is_good_type-then-branch.result (sum_examined (sum_ty_of c.in-Sum.ensures c.requires.given) a.adds a.kept c.requires.values a.names a.values) c.is_good_type-then-branch.ensures.adds

pub returns-in-Key-clause-adds : goal.returns-in-Key-clause-adds
returns-in-Key-clause-adds t c = on_ok c.is_good_type-in-Key.result (payload_examined (key_ty_of c.in-Key.ensures c.requires.given)) c.is_good_type-in-Key.ensures.adds

pub returns-in_ok-atoms-in-Nonce-clause-adds : goal.returns-in_ok-atoms-in-Nonce-clause-adds
returns-in_ok-atoms-in-Nonce-clause-adds t c = on_ok c.are_good_atoms.result (nonce_examined (nonce_ty_of c.in-Nonce.ensures c.requires.given) (c.deref-in-Nonce-2.ensures.value ∙ c.in_ok-atoms-in-Nonce.ensures.items_if_clones_equal (λ x y h. h)) c.deref-in-Nonce.ensures.value c.deref-in-Nonce-3.ensures.value) c.are_good_atoms.ensures.adds

pub returns-in_ok-push-in-Pair-2-clause-adds : goal.returns-in_ok-push-in-Pair-2-clause-adds
returns-in_ok-push-in-Pair-2-clause-adds t c =
    let a = c.in_ok-is_good_type-in-Pair.ensures in
    let n = c.in_ok-name-in-Pair.ensures in
    let o = c.in_ok-outer-in-Pair.ensures in
    let values = c.deref.ensures.value ∙ a.values in
    let fills = subst (λ us. FillsTy c.message_over.new.self c.filled_type.new.store us 0 c.in-Pair.first c.in_ok-outer-in-Pair.outer) values o.at in
    let added = subst (λ us. TypeIsAdded c.message_over.new.self c.filled_type.new.store us 0 c.in-Pair.first) values o.adds in
    on_ok c.is_good_type-answer.result (pair_examined c.in_ok-name-in-Pair.name (pair_ty_of c.in-Pair.ensures c.requires.given) a.adds a.kept c.requires.values n.kept (n.at _ says_name) (c.len-count.ensures ∙ c.is_good_type.new.env.ok.0 ∙ ap length a.names) (n.adds _ says_name) o.kept fills added (c.in_ok-push-in-Pair-2.ensures.items ∙ ap (λ is. is ++ c.in_ok-outer-in-Pair.outer ∷ []) a.names) (c.in_ok-push-in-Pair.ensures.items ∙ ap (λ us. us ++ c.in_ok-name-in-Pair.name ∷ []) a.values)) c.is_good_type-answer.ensures.adds
