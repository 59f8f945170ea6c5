use Rattle.std.proofs.Common.{arith, refl, sym, ap, subst, IfOk, OnOk, List, ◌∙◌, ◌++◌, ◌∷◌, []}
use Rattle.spi_intern.specs.declared.messages.MsgId.{MsgId}
use Rattle.spi_term.specs.Term.{Message, name}
use Rattle.spi_term.proofs.Choices.{on_ok}
use Rattle.spi_intern.specs.Messages.{message_at}
use Rattle.spi_intern.specs.Parts.{PartOf, whole, of_first, of_left, of_right, of_hash}
use Rattle.spi_intern.proofs.Meanings.{means_keeps, terms_same, terms_more}
use Rattle.spi_message.specs.Asking.{IsTyped}
use Rattle.spi_message.specs.Tests.{labelled}
use Rattle.spi_intern.proofs.Sized.{pair_of, enc_of, left_of, right_of, hash_of, bound_of, name_of, unit_of}
use Rattle.spi_message.proofs.Fills.{below_keeps, size_keeps}
use Rattle.spi_message.proofs.FillsTypes.{given_keeps, pair_ty_of, un_of}
use Rattle.spi_message.proofs.Standing.{environment_keeps}
use Rattle.spi_message.proofs.Questions.{typed_as, labelled_as, bound_untyped, bound_unlabelled, unit_labelled, name_labelled, unit_typed, sealed_typed, sealed_untyped, hash_typed, hash_untyped, pair_untyped, left_side_typed, right_side_typed, left_side_untyped, right_side_untyped, side_given, pair_un, pair_un_not, pair_not, pair_pair, pair_labelled, pair_unlabelled, part_labelled, by_payload, by_un, not_by_un, asked_part, asked_later, asked_under, asked_alone, payload_is_given}
use Rattle.spi_message.specs.Added.{TypingGives, LabelGives}
use Rattle.spi_message.proofs.Comparing.{no_typing, no_label, part_typing, part_label, label_typing, left_side_typing, right_side_typing, first_typing, both_typing, pair_typing, both_labels, payload_label, key_label, body_label}
use Rattle.spi_message.proofs.typing.+typing.Goals as goal

pub has_type-pair_has_type-requires : goal.has_type-pair_has_type-requires
has_type-pair_has_type-requires t c = let w = pair_of _ _ c.in-Pair.ensures c.requires.message in (omega (arith, w.size, c.decreases), (w.first, (w.second, c.requires.asked)))

pub has_type-has_type-requires : goal.has_type-has_type-requires
has_type-has_type-requires t c = let w = left_of _ _ c.in-Inl.ensures c.requires.message in (omega (arith, w.size, c.decreases), (w.part, asked_part c.requires.asked (side_given c.in-Some.ensures.some c.requires.asked.given).0))

pub has_type-has_type-requires-in-Some-sides_of : goal.has_type-has_type-requires-in-Some-sides_of
has_type-has_type-requires-in-Some-sides_of t c = let w = right_of _ _ c.in-Inr.ensures c.requires.message in (omega (arith, w.size, c.decreases), (w.part, asked_part c.requires.asked (side_given c.in-Some-sides_of.ensures.some c.requires.asked.given).1))

pub has_type-is_sealed-requires : goal.has_type-is_sealed-requires
has_type-is_sealed-requires t c = let w = enc_of _ _ c.in-Enc.ensures c.requires.message in (omega (arith, w.size, c.decreases), (w.first, (w.second, c.requires.asked.names)))

pub has_type-is_label-requires : goal.has_type-is_label-requires
has_type-is_label-requires t c = let w = hash_of _ _ c.in-Hash.ensures c.requires.message in (omega (arith, w.size, c.decreases), (w.part, c.requires.asked.names))

pub has_type-returns-in-Bound : goal.has_type-returns-in-Bound
has_type-returns-in-Bound t c = record { answer = bound_untyped (sym (bound_of _ _ c.in-Bound.ensures c.requires.message)); adds = no_typing; kept = terms_same _; values = refl }

pub has_type-returns-in-Name-clause-answer : goal.has_type-returns-in-Name-clause-answer
has_type-returns-in-Name-clause-answer t c = typed_as _ _ _ _ (name_of _ _ c.in-Name.ensures c.requires.message) c.name_has_type.result (subst (λ us. IfOk c.name_has_type.result (IsTyped c.args.store.now c.args.env.now (name c.in-Name.x) c.args.t us)) c.deref.ensures.value c.name_has_type.ensures.answer)

pub has_type-returns-in-Unit : goal.has_type-returns-in-Unit
has_type-returns-in-Unit t c = record { answer = unit_typed (sym (unit_of _ _ c.in-Unit.ensures c.requires.message)) c.is_unit_type.result c.is_unit_type.ensures; adds = no_typing; kept = terms_same _; values = refl }

pub has_type-returns-in-Pair-clause-answer : goal.has_type-returns-in-Pair-clause-answer
has_type-returns-in-Pair-clause-answer t c = typed_as _ _ _ _ ((pair_of _ _ c.in-Pair.ensures c.requires.message).is) c.pair_has_type.result c.pair_has_type.ensures.answer

pub has_type-returns-in-Some-clause-answer : goal.has_type-returns-in-Some-clause-answer
has_type-returns-in-Some-clause-answer t c = left_side_typed _ _ (sym (left_of _ _ c.in-Inl.ensures c.requires.message).is) c.in-Some.ensures.some c.has_type.result c.has_type.ensures.answer

pub has_type-returns-in-None-clause-answer : goal.has_type-returns-in-None-clause-answer
has_type-returns-in-None-clause-answer t c = left_side_untyped (sym (left_of _ _ c.in-Inl.ensures c.requires.message).is) c.in-None.ensures.none

pub has_type-returns-in-Some-sides_of-clause-answer : goal.has_type-returns-in-Some-sides_of-clause-answer
has_type-returns-in-Some-sides_of-clause-answer t c = right_side_typed _ _ (sym (right_of _ _ c.in-Inr.ensures c.requires.message).is) c.in-Some-sides_of.ensures.some c.has_type-in-Some-sides_of.result c.has_type-in-Some-sides_of.ensures.answer

pub has_type-returns-in-None-sides_of-clause-answer : goal.has_type-returns-in-None-sides_of-clause-answer
has_type-returns-in-None-sides_of-clause-answer t c = right_side_untyped (sym (right_of _ _ c.in-Inr.ensures c.requires.message).is) c.in-None-sides_of.ensures.none

pub has_type-returns-then-is_un_type-clause-answer : goal.has_type-returns-then-is_un_type-clause-answer
has_type-returns-then-is_un_type-clause-answer t c = sealed_typed _ _ (sym (enc_of _ _ c.in-Enc.ensures c.requires.message).is) c.is_un_type.ensures c.if-is_un_type.true c.is_sealed.result c.is_sealed.ensures.answer

pub has_type-returns-else-is_un_type-clause-answer : goal.has_type-returns-else-is_un_type-clause-answer
has_type-returns-else-is_un_type-clause-answer t c = sealed_untyped (sym (enc_of _ _ c.in-Enc.ensures c.requires.message).is) c.is_un_type.ensures c.if-is_un_type.false

pub has_type-returns-then-is_un_type-2-clause-answer : goal.has_type-returns-then-is_un_type-2-clause-answer
has_type-returns-then-is_un_type-2-clause-answer t c = hash_typed _ _ (sym (hash_of _ _ c.in-Hash.ensures c.requires.message).is) c.is_un_type-in-Hash.ensures c.if-is_un_type-2.true c.is_label.result c.is_label.ensures.answer

pub has_type-returns-else-is_un_type-2-clause-answer : goal.has_type-returns-else-is_un_type-2-clause-answer
has_type-returns-else-is_un_type-2-clause-answer t c = hash_untyped (sym (hash_of _ _ c.in-Hash.ensures c.requires.message).is) c.is_un_type-in-Hash.ensures c.if-is_un_type-2.false

pub is_label-is_label-requires : goal.is_label-is_label-requires
is_label-is_label-requires t c = let w = pair_of _ _ c.in-Pair.ensures c.requires.message in (omega (arith, w.size, c.decreases), (w.first, c.requires.names))

pub is_label-is_label-requires-then-branch : goal.is_label-is_label-requires-then-branch
is_label-is_label-requires-then-branch t c =
    let w = pair_of _ _ c.in-Pair.ensures c.requires.message in
    let k = c.in_ok-is_label-in-Pair.ensures.kept in
    (omega (arith, w.size, size_keeps c.in-Pair.b k.messages w.second, c.decreases), (below_keeps c.in-Pair.b k.messages w.second, environment_keeps k c.requires.names))

pub is_label-is_label-requires-in-Inl : goal.is_label-is_label-requires-in-Inl
is_label-is_label-requires-in-Inl t c = let w = left_of _ _ c.in-Inl.ensures c.requires.message in (omega (arith, w.size, c.decreases), (w.part, c.requires.names))

pub is_label-returns-in-Inl : goal.is_label-returns-in-Inl
is_label-returns-in-Inl t c = let q = (left_of _ _ c.in-Inl.ensures c.requires.message).is in record { answer = part_labelled _ _ (message_at c.args.store.now.messages c.args.m) (message_at c.args.store.now.messages c.in-Inl.a) (λ e. ap (λ n. labelled n e) (sym q)) c.is_label-in-Inl.result c.is_label-in-Inl.ensures.answer; adds = on_ok c.is_label-in-Inl.result (part_label (subst (PartOf _) q (of_left whole))) c.is_label-in-Inl.ensures.adds; kept = c.is_label-in-Inl.ensures.kept }

pub is_label-is_label-requires-in-Inr : goal.is_label-is_label-requires-in-Inr
is_label-is_label-requires-in-Inr t c = let w = right_of _ _ c.in-Inr.ensures c.requires.message in (omega (arith, w.size, c.decreases), (w.part, c.requires.names))

pub is_label-returns-in-Inr : goal.is_label-returns-in-Inr
is_label-returns-in-Inr t c = let q = (right_of _ _ c.in-Inr.ensures c.requires.message).is in record { answer = part_labelled _ _ (message_at c.args.store.now.messages c.args.m) (message_at c.args.store.now.messages c.in-Inr.a) (λ e. ap (λ n. labelled n e) (sym q)) c.is_label-in-Inr.result c.is_label-in-Inr.ensures.answer; adds = on_ok c.is_label-in-Inr.result (part_label (subst (PartOf _) q (of_right whole))) c.is_label-in-Inr.ensures.adds; kept = c.is_label-in-Inr.ensures.kept }

pub is_label-is_label-requires-in-Hash : goal.is_label-is_label-requires-in-Hash
is_label-is_label-requires-in-Hash t c = let w = hash_of _ _ c.in-Hash.ensures c.requires.message in (omega (arith, w.size, c.decreases), (w.part, c.requires.names))

pub is_label-returns-in-Hash : goal.is_label-returns-in-Hash
is_label-returns-in-Hash t c = let q = (hash_of _ _ c.in-Hash.ensures c.requires.message).is in record { answer = part_labelled _ _ (message_at c.args.store.now.messages c.args.m) (message_at c.args.store.now.messages c.in-Hash.a) (λ e. ap (λ n. labelled n e) (sym q)) c.is_label-in-Hash.result c.is_label-in-Hash.ensures.answer; adds = on_ok c.is_label-in-Hash.result (part_label (subst (PartOf _) q (of_hash whole))) c.is_label-in-Hash.ensures.adds; kept = c.is_label-in-Hash.ensures.kept }

pub is_label-is_sealed-requires : goal.is_label-is_sealed-requires
is_label-is_sealed-requires t c = let w = enc_of _ _ c.in-Enc.ensures c.requires.message in (omega (arith, w.size, c.decreases), (w.first, (w.second, c.requires.names)))

pub is_label-returns-in-Bound : goal.is_label-returns-in-Bound
is_label-returns-in-Bound t c = record { answer = bound_unlabelled (sym (bound_of _ _ c.in-Bound.ensures c.requires.message)); adds = no_label; kept = terms_same _ }

pub is_label-returns-in-Name : goal.is_label-returns-in-Name
is_label-returns-in-Name t c = record { answer = name_labelled (sym (name_of _ _ c.in-Name.ensures c.requires.message)); adds = no_label; kept = terms_same _ }

pub is_label-returns-in-Unit : goal.is_label-returns-in-Unit
is_label-returns-in-Unit t c = record { answer = unit_labelled (sym (unit_of _ _ c.in-Unit.ensures c.requires.message)); adds = no_label; kept = terms_same _ }

pub is_label-returns-then-branch-clause-answer : goal.is_label-returns-then-branch-clause-answer
is_label-returns-then-branch-clause-answer t c =
    let w = pair_of _ _ c.in-Pair.ensures c.requires.message in
    let a = c.in_ok-is_label-in-Pair.ensures in
    pair_labelled c.in-Pair.a c.in-Pair.b (sym w.is) a.answer c.if-branch.true a.kept w.second c.is_label-then-branch.result c.is_label-then-branch.ensures.answer

pub is_label-returns-else-branch-clause-answer : goal.is_label-returns-else-branch-clause-answer
is_label-returns-else-branch-clause-answer t c = pair_unlabelled (sym (pair_of _ _ c.in-Pair.ensures c.requires.message).is) c.in_ok-is_label-in-Pair.ensures.answer c.if-branch.false

pub is_label-returns-in-Enc-clause-answer : goal.is_label-returns-in-Enc-clause-answer
is_label-returns-in-Enc-clause-answer t c = labelled_as _ _ ((enc_of _ _ c.in-Enc.ensures c.requires.message).is) c.is_sealed.result c.is_sealed.ensures.answer

pub is_sealed-has_type-requires : goal.is_sealed-has_type-requires
is_sealed-has_type-requires t c = (omega (arith, c.decreases), (c.requires.body, asked_alone c.requires.names (payload_is_given c.requires.names c.in-Some.ensures.some) c.new-values.ensures.items))

pub is_sealed-returns-in-Some-clause-answer : goal.is_sealed-returns-in-Some-clause-answer
is_sealed-returns-in-Some-clause-answer t c = by_payload _ c.in-Some.ensures.some c.new-values.ensures.items c.has_type.result c.has_type.ensures.answer

pub is_sealed-has_type-requires-in-None : goal.is_sealed-has_type-requires-in-None
is_sealed-has_type-requires-in-None t c =
    let k = c.in_ok-un-in-None.ensures.kept in
    (omega (arith, size_keeps c.args.key k.messages c.requires.key, c.decreases), (below_keeps c.args.key k.messages c.requires.key, asked_alone (environment_keeps k c.requires.names) record { type = _; means = c.in_ok-un-in-None.ensures.at } c.new-values.ensures.items))

pub is_sealed-has_type-requires-then-branch : goal.is_sealed-has_type-requires-then-branch
is_sealed-has_type-requires-then-branch t c =
    let k = c.in_ok-un-in-None.ensures.kept in
    let l = c.in_ok-has_type-in-None.ensures.kept in
    let b = below_keeps c.args.body k.messages c.requires.body in
    (omega (arith, size_keeps c.args.body k.messages c.requires.body, size_keeps c.args.body l.messages b, c.decreases), (below_keeps c.args.body l.messages b, asked_alone (environment_keeps l (environment_keeps k c.requires.names)) (given_keeps l record { type = _; means = c.in_ok-un-in-None.ensures.at }) (◌∙◌ {A = List MsgId} c.in_ok-has_type-in-None.ensures.values c.new-values.ensures.items)))

pub is_sealed-returns-then-branch-clause-answer : goal.is_sealed-returns-then-branch-clause-answer
is_sealed-returns-then-branch-clause-answer t c = by_un c.in-None.ensures.none c.in_ok-un-in-None.ensures.kept c.in_ok-un-in-None.ensures.at c.new-values.ensures.items c.requires.key c.in_ok-has_type-in-None.ensures.answer c.if-branch.true c.in_ok-has_type-in-None.ensures.kept c.in_ok-has_type-in-None.ensures.values c.requires.body c.has_type-then-branch.result c.has_type-then-branch.ensures.answer

pub is_sealed-returns-clause-answer : goal.is_sealed-returns-clause-answer
is_sealed-returns-clause-answer t c = not_by_un c.in-None.ensures.none c.in_ok-un-in-None.ensures.kept c.in_ok-un-in-None.ensures.at c.new-values.ensures.items c.requires.key c.in_ok-has_type-in-None.ensures.answer c.if-branch.false

pub pair_has_type-has_type-requires : goal.pair_has_type-has_type-requires
pair_has_type-has_type-requires t c = (omega (arith, c.decreases), (c.requires.first, c.requires.asked))

pub pair_has_type-has_type-requires-then-branch : goal.pair_has_type-has_type-requires-then-branch
pair_has_type-has_type-requires-then-branch t c =
    let k = c.in_ok-has_type-in-Un.ensures.kept in
    (omega (arith, size_keeps c.args.b k.messages c.requires.second, c.decreases), (below_keeps c.args.b k.messages c.requires.second, asked_later k c.requires.asked c.in_ok-has_type-in-Un.ensures.values))

pub pair_has_type-has_type-requires-in-Pair : goal.pair_has_type-has_type-requires-in-Pair
pair_has_type-has_type-requires-in-Pair t c = (omega (arith, c.decreases), (c.requires.first, asked_part c.requires.asked ((pair_ty_of c.in-Pair.ensures c.requires.asked.given).first)))

pub pair_has_type-returns-then-not-branch-clause-answer : goal.pair_has_type-returns-then-not-branch-clause-answer
pair_has_type-returns-then-not-branch-clause-answer t c = pair_not (pair_ty_of c.in-Pair.ensures c.requires.asked.given) c.in_ok-has_type-in-Pair.ensures.answer c.if-not-branch.true

pub pair_has_type-has_type-requires-in-Pair-2 : goal.pair_has_type-has_type-requires-in-Pair-2
pair_has_type-has_type-requires-in-Pair-2 t c =
    let k = c.in_ok-has_type-in-Pair.ensures.kept in
    (omega (arith, size_keeps c.args.b k.messages c.requires.second, c.decreases), (below_keeps c.args.b k.messages c.requires.second, asked_under k c.requires.asked ((pair_ty_of c.in-Pair.ensures c.requires.asked.given).second) c.requires.first c.in_ok-has_type-in-Pair.ensures.values c.in_ok-push-in-Pair.ensures.items))

pub pair_has_type-returns-then-branch-clause-answer : goal.pair_has_type-returns-then-branch-clause-answer
pair_has_type-returns-then-branch-clause-answer t c = pair_un c.args.a c.args.b (un_of c.in-Un.ensures) c.in_ok-has_type-in-Un.ensures.answer c.if-branch.true c.in_ok-has_type-in-Un.ensures.kept c.requires.second c.requires.asked.values c.in_ok-has_type-in-Un.ensures.values c.has_type-then-branch.result c.has_type-then-branch.ensures.answer

pub pair_has_type-returns-else-branch-clause-answer : goal.pair_has_type-returns-else-branch-clause-answer
pair_has_type-returns-else-branch-clause-answer t c = pair_un_not (un_of c.in-Un.ensures) c.in_ok-has_type-in-Un.ensures.answer c.if-branch.false

pub pair_has_type-returns-in_ok-answer-in-Pair-clause-answer : goal.pair_has_type-returns-in_ok-answer-in-Pair-clause-answer
pair_has_type-returns-in_ok-answer-in-Pair-clause-answer t c =
    let a = c.in_ok-has_type-in-Pair.ensures in
    pair_pair (pair_ty_of c.in-Pair.ensures c.requires.asked.given) a.answer c.if-not-branch.false a.kept c.requires.first c.requires.second c.requires.asked.values (c.in_ok-push-in-Pair.ensures.items ∙ ap (λ us. us ++ c.args.a ∷ []) a.values) c.in_ok-answer-in-Pair.ensures.answer

pub pair_has_type-returns-in_default-clause-answer : goal.pair_has_type-returns-in_default-clause-answer
pair_has_type-returns-in_default-clause-answer t c = pair_untyped c.ty_part.ensures c.in_default.not-Un c.in_default.not-Pair

pub has_type-returns-in-Name-clause-adds : goal.has_type-returns-in-Name-clause-adds
has_type-returns-in-Name-clause-adds t c =
    let e = name_of _ _ c.in-Name.ensures c.requires.message in
    subst (λ (n : Message). OnOk c.name_has_type.result (TypingGives c.args.store.now c.name_has_type.new.store c.args.env.now n c.args.t c.args.values.now.items)) e (subst (λ us. OnOk c.name_has_type.result (TypingGives c.args.store.now c.name_has_type.new.store c.args.env.now (name c.in-Name.x) c.args.t us)) c.deref.ensures.value c.name_has_type.ensures.adds)

pub has_type-returns-in-Pair-clause-adds : goal.has_type-returns-in-Pair-clause-adds
has_type-returns-in-Pair-clause-adds t c =
    let e = (pair_of _ _ c.in-Pair.ensures c.requires.message).is in
    subst (λ (n : Message). OnOk c.pair_has_type.result (TypingGives c.args.store.now c.pair_has_type.new.store c.args.env.now n c.args.t c.args.values.now.items)) e c.pair_has_type.ensures.adds

pub has_type-returns-in-Some-clause-adds : goal.has_type-returns-in-Some-clause-adds
has_type-returns-in-Some-clause-adds t c = let e = (left_of _ _ c.in-Inl.ensures c.requires.message).is in on_ok c.has_type.result (left_side_typing c.in-Some.ensures.some (subst (PartOf _) e (of_left whole))) c.has_type.ensures.adds

pub has_type-returns-in-None-clause-adds : goal.has_type-returns-in-None-clause-adds
has_type-returns-in-None-clause-adds t c = no_typing

pub has_type-returns-in-Some-sides_of-clause-adds : goal.has_type-returns-in-Some-sides_of-clause-adds
has_type-returns-in-Some-sides_of-clause-adds t c = let e = (right_of _ _ c.in-Inr.ensures c.requires.message).is in on_ok c.has_type-in-Some-sides_of.result (right_side_typing c.in-Some-sides_of.ensures.some (subst (PartOf _) e (of_right whole))) c.has_type-in-Some-sides_of.ensures.adds

pub has_type-returns-in-None-sides_of-clause-adds : goal.has_type-returns-in-None-sides_of-clause-adds
has_type-returns-in-None-sides_of-clause-adds t c = no_typing

pub has_type-returns-then-is_un_type-clause-adds : goal.has_type-returns-then-is_un_type-clause-adds
has_type-returns-then-is_un_type-clause-adds t c =
    let e = (enc_of _ _ c.in-Enc.ensures c.requires.message).is in
    on_ok c.is_sealed.result label_typing (subst (λ (n : Message). OnOk c.is_sealed.result (LabelGives c.args.store.now c.is_sealed.new.store c.args.env.now n)) e c.is_sealed.ensures.adds)

pub has_type-returns-else-is_un_type-clause-adds : goal.has_type-returns-else-is_un_type-clause-adds
has_type-returns-else-is_un_type-clause-adds t c = no_typing

pub has_type-returns-then-is_un_type-2-clause-adds : goal.has_type-returns-then-is_un_type-2-clause-adds
has_type-returns-then-is_un_type-2-clause-adds t c =
    let e = (hash_of _ _ c.in-Hash.ensures c.requires.message).is in
    on_ok c.is_label.result (λ h. label_typing (part_label (subst (PartOf _) e (of_hash whole)) h)) c.is_label.ensures.adds

pub has_type-returns-else-is_un_type-2-clause-adds : goal.has_type-returns-else-is_un_type-2-clause-adds
has_type-returns-else-is_un_type-2-clause-adds t c = no_typing

pub is_label-returns-in-Enc-clause-adds : goal.is_label-returns-in-Enc-clause-adds
is_label-returns-in-Enc-clause-adds t c =
    let e = (enc_of _ _ c.in-Enc.ensures c.requires.message).is in
    subst (λ (n : Message). OnOk c.is_sealed.result (LabelGives c.args.store.now c.is_sealed.new.store c.args.env.now n)) e c.is_sealed.ensures.adds

pub is_label-returns-then-branch-clause-adds : goal.is_label-returns-then-branch-clause-adds
is_label-returns-then-branch-clause-adds t c =
    let w = pair_of _ _ c.in-Pair.ensures c.requires.message in
    let a = c.in_ok-is_label-in-Pair.ensures in
    on_ok c.is_label-then-branch.result (λ h. subst (LabelGives c.args.store.now c.is_label-then-branch.new.store c.args.env.now) w.is (both_labels c.in-Pair.a c.in-Pair.b a.adds a.kept w.second h)) c.is_label-then-branch.ensures.adds

pub is_label-returns-else-branch-clause-adds : goal.is_label-returns-else-branch-clause-adds
is_label-returns-else-branch-clause-adds t c =
    let e = (pair_of _ _ c.in-Pair.ensures c.requires.message).is in
    part_label (subst (PartOf _) e (of_first whole)) c.in_ok-is_label-in-Pair.ensures.adds

pub is_sealed-returns-in-Some-clause-adds : goal.is_sealed-returns-in-Some-clause-adds
is_sealed-returns-in-Some-clause-adds t c = on_ok c.has_type.result (payload_label c.in-Some.ensures.some c.new-values.ensures.items) c.has_type.ensures.adds

pub is_sealed-returns-clause-adds : goal.is_sealed-returns-clause-adds
is_sealed-returns-clause-adds t c =
    let u = c.in_ok-un-in-None.ensures in
    key_label c.args.body c.args.key u.kept u.adds u.at c.requires.key c.new-values.ensures.items c.in_ok-has_type-in-None.ensures.adds

pub is_sealed-returns-then-branch-clause-adds : goal.is_sealed-returns-then-branch-clause-adds
is_sealed-returns-then-branch-clause-adds t c =
    let u = c.in_ok-un-in-None.ensures in
    let h = c.in_ok-has_type-in-None.ensures in
    on_ok c.has_type-then-branch.result (body_label c.args.body (key_label c.args.body c.args.key u.kept u.adds u.at c.requires.key c.new-values.ensures.items h.adds) (terms_more u.kept h.kept) (means_keeps h.kept u.at) c.requires.body (◌∙◌ {A = List MsgId} h.values c.new-values.ensures.items)) c.has_type-then-branch.ensures.adds

pub pair_has_type-returns-in_default-clause-adds : goal.pair_has_type-returns-in_default-clause-adds
pair_has_type-returns-in_default-clause-adds t c = no_typing

pub pair_has_type-returns-else-branch-clause-adds : goal.pair_has_type-returns-else-branch-clause-adds
pair_has_type-returns-else-branch-clause-adds t c = part_typing (of_first whole) c.in_ok-has_type-in-Un.ensures.adds

pub pair_has_type-returns-then-branch-clause-adds : goal.pair_has_type-returns-then-branch-clause-adds
pair_has_type-returns-then-branch-clause-adds t c =
    let a = c.in_ok-has_type-in-Un.ensures in
    on_ok c.has_type-then-branch.result (both_typing c.args.a c.args.b a.adds a.kept c.requires.second c.requires.asked.values a.values) c.has_type-then-branch.ensures.adds

pub pair_has_type-returns-then-not-branch-clause-adds : goal.pair_has_type-returns-then-not-branch-clause-adds
pair_has_type-returns-then-not-branch-clause-adds t c = first_typing (pair_ty_of c.in-Pair.ensures c.requires.asked.given) (of_first whole) c.in_ok-has_type-in-Pair.ensures.adds

pub pair_has_type-returns-in_ok-answer-in-Pair-clause-adds : goal.pair_has_type-returns-in_ok-answer-in-Pair-clause-adds
pair_has_type-returns-in_ok-answer-in-Pair-clause-adds t c =
    let a = c.in_ok-has_type-in-Pair.ensures in
    pair_typing (pair_ty_of c.in-Pair.ensures c.requires.asked.given) a.answer c.if-not-branch.false a.adds a.kept c.requires.first c.requires.second c.requires.asked.values (c.in_ok-push-in-Pair.ensures.items ∙ ap (λ us. us ++ c.args.a ∷ []) a.values) c.in_ok-answer-in-Pair.ensures.adds
