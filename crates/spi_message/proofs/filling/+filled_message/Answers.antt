use Rattle.std.proofs.Common.{arith, sym}
use Rattle.spi_intern.proofs.Sized.{pair_of, enc_of, left_of, right_of, hash_of, bound_of, name_of, unit_of}
use Rattle.spi_message.proofs.Fills.{below_keeps, size_keeps, all_below_keeps, given_over_two, given_over_one, fills_name, fills_unit, fills_value, fills_bound, fills_two, fills_one}
use Rattle.spi_message.proofs.Added.{added_value, added_bound, added_name, added_unit, pair_joins, enc_joins, left_wraps, right_wraps, hash_wraps, added_two, added_one}
use Rattle.spi_message.proofs.filling.+filled_message.Goals as goal

-- the parts are messages of the store, and smaller

pub filled_message-requires : goal.filled_message-requires
filled_message-requires t c =
    let w = pair_of _ _ c.in-Pair.ensures c.requires.message in
    (omega (arith, w.size, c.decreases), (c.requires.depth, (w.first, c.requires.values)))

pub filled_message-requires-in-Enc : goal.filled_message-requires-in-Enc
filled_message-requires-in-Enc t c =
    let w = enc_of _ _ c.in-Enc.ensures c.requires.message in
    (omega (arith, w.size, c.decreases), (c.requires.depth, (w.first, c.requires.values)))

pub filled_message-requires-in-Pair : goal.filled_message-requires-in-Pair
filled_message-requires-in-Pair t c =
    let w = pair_of _ _ c.in-Pair.ensures c.requires.message in
    let k = c.in_ok-first-in-Pair.ensures.kept.messages in
    (omega (arith, w.size, size_keeps c.in-Pair.b k w.second, c.decreases), (c.requires.depth, (below_keeps c.in-Pair.b k w.second, all_below_keeps k c.requires.values)))

pub filled_message-requires-in-Enc-2 : goal.filled_message-requires-in-Enc-2
filled_message-requires-in-Enc-2 t c =
    let w = enc_of _ _ c.in-Enc.ensures c.requires.message in
    let k = c.in_ok-body-in-Enc.ensures.kept.messages in
    (omega (arith, w.size, size_keeps c.in-Enc.b k w.second, c.decreases), (c.requires.depth, (below_keeps c.in-Enc.b k w.second, all_below_keeps k c.requires.values)))

pub filled_message-requires-in-Inl : goal.filled_message-requires-in-Inl
filled_message-requires-in-Inl t c =
    let w = left_of _ _ c.in-Inl.ensures c.requires.message in
    (omega (arith, w.size, c.decreases), (c.requires.depth, (w.part, c.requires.values)))

pub filled_message-requires-in-Inr : goal.filled_message-requires-in-Inr
filled_message-requires-in-Inr t c =
    let w = right_of _ _ c.in-Inr.ensures c.requires.message in
    (omega (arith, w.size, c.decreases), (c.requires.depth, (w.part, c.requires.values)))

pub filled_message-requires-in-Hash : goal.filled_message-requires-in-Hash
filled_message-requires-in-Hash t c =
    let w = hash_of _ _ c.in-Hash.ensures c.requires.message in
    (omega (arith, w.size, c.decreases), (c.requires.depth, (w.part, c.requires.values)))

-- what is put is over messages of the store

pub message_over-requires : goal.message_over-requires
message_over-requires t c = given_over_two pair_joins.put c.requires.depth c.in_ok-first-in-Pair.ensures.at c.in_ok-second-in-Pair.ensures.kept.messages c.in_ok-second-in-Pair.ensures.at

pub message_over-requires-in-Enc : goal.message_over-requires-in-Enc
message_over-requires-in-Enc t c = given_over_two enc_joins.put c.requires.depth c.in_ok-body-in-Enc.ensures.at c.in_ok-key-in-Enc.ensures.kept.messages c.in_ok-key-in-Enc.ensures.at

pub message_over-requires-in-Inl : goal.message_over-requires-in-Inl
message_over-requires-in-Inl t c = given_over_one left_wraps.put c.requires.depth c.in_ok-part-in-Inl.ensures.at

pub message_over-requires-in-Inr : goal.message_over-requires-in-Inr
message_over-requires-in-Inr t c = given_over_one right_wraps.put c.requires.depth c.in_ok-part-in-Inr.ensures.at

pub message_over-requires-in-Hash : goal.message_over-requires-in-Hash
message_over-requires-in-Hash t c = given_over_one hash_wraps.put c.requires.depth c.in_ok-part-in-Hash.ensures.at

-- which message the number is that of

pub returns-in-Some-clause-at : goal.returns-in-Some-clause-at
returns-in-Some-clause-at t c = fills_value (sym (bound_of _ _ c.in-Bound.ensures c.requires.message)) c.requires.values (λ d e. c.in-Some.ensures d e)

pub returns-in-None-clause-at : goal.returns-in-None-clause-at
returns-in-None-clause-at t c = fills_bound c.requires.message (sym (bound_of _ _ c.in-Bound.ensures c.requires.message)) (λ d e. c.in-None.ensures d e)

pub returns-in-Name-clause-at : goal.returns-in-Name-clause-at
returns-in-Name-clause-at t c = fills_name c.requires.message (sym (name_of _ _ c.in-Name.ensures c.requires.message))

pub returns-in-Unit-clause-at : goal.returns-in-Unit-clause-at
returns-in-Unit-clause-at t c = fills_unit c.requires.message (sym (unit_of _ _ c.in-Unit.ensures c.requires.message))

pub returns-in_ok-second-in-Pair-clause-at : goal.returns-in_ok-second-in-Pair-clause-at
returns-in_ok-second-in-Pair-clause-at t c =
    let a = c.in_ok-first-in-Pair.ensures in
    let b = c.in_ok-second-in-Pair.ensures in
    fills_two _ pair_joins.put pair_joins.fills (pair_of _ _ c.in-Pair.ensures c.requires.message) a.kept.messages c.requires.values a.at b.kept.messages b.at c.message_over.result c.message_over.ensures.at

pub returns-in_ok-key-in-Enc-clause-at : goal.returns-in_ok-key-in-Enc-clause-at
returns-in_ok-key-in-Enc-clause-at t c =
    let a = c.in_ok-body-in-Enc.ensures in
    let b = c.in_ok-key-in-Enc.ensures in
    fills_two _ enc_joins.put enc_joins.fills (enc_of _ _ c.in-Enc.ensures c.requires.message) a.kept.messages c.requires.values a.at b.kept.messages b.at c.message_over-in-Enc.result c.message_over-in-Enc.ensures.at

pub returns-in_ok-part-in-Inl-clause-at : goal.returns-in_ok-part-in-Inl-clause-at
returns-in_ok-part-in-Inl-clause-at t c = fills_one _ left_wraps.put left_wraps.fills (left_of _ _ c.in-Inl.ensures c.requires.message) c.in_ok-part-in-Inl.ensures.at c.message_over-in-Inl.result c.message_over-in-Inl.ensures.at

pub returns-in_ok-part-in-Inr-clause-at : goal.returns-in_ok-part-in-Inr-clause-at
returns-in_ok-part-in-Inr-clause-at t c = fills_one _ right_wraps.put right_wraps.fills (right_of _ _ c.in-Inr.ensures c.requires.message) c.in_ok-part-in-Inr.ensures.at c.message_over-in-Inr.result c.message_over-in-Inr.ensures.at

pub returns-in_ok-part-in-Hash-clause-at : goal.returns-in_ok-part-in-Hash-clause-at
returns-in_ok-part-in-Hash-clause-at t c = fills_one _ hash_wraps.put hash_wraps.fills (hash_of _ _ c.in-Hash.ensures c.requires.message) c.in_ok-part-in-Hash.ensures.at c.message_over-in-Hash.result c.message_over-in-Hash.ensures.at

-- what is new

pub returns-in-Some-clause-adds : goal.returns-in-Some-clause-adds
returns-in-Some-clause-adds t c = added_value (sym (bound_of _ _ c.in-Bound.ensures c.requires.message)) c.requires.values (λ d e. c.in-Some.ensures d e)

pub returns-in-None-clause-adds : goal.returns-in-None-clause-adds
returns-in-None-clause-adds t c = added_bound c.requires.message (sym (bound_of _ _ c.in-Bound.ensures c.requires.message)) (λ d e. c.in-None.ensures d e)

pub returns-in-Name-clause-adds : goal.returns-in-Name-clause-adds
returns-in-Name-clause-adds t c = added_name c.requires.message (sym (name_of _ _ c.in-Name.ensures c.requires.message))

pub returns-in-Unit-clause-adds : goal.returns-in-Unit-clause-adds
returns-in-Unit-clause-adds t c = added_unit c.requires.message (sym (unit_of _ _ c.in-Unit.ensures c.requires.message))

pub returns-in_ok-second-in-Pair-clause-adds : goal.returns-in_ok-second-in-Pair-clause-adds
returns-in_ok-second-in-Pair-clause-adds t c =
    let a = c.in_ok-first-in-Pair.ensures in
    let b = c.in_ok-second-in-Pair.ensures in
    added_two _ pair_joins (pair_of _ _ c.in-Pair.ensures c.requires.message) a.kept c.requires.values a.at a.adds b.kept b.at b.adds c.message_over.ensures.kept c.message_over.result c.message_over.ensures.adds

pub returns-in_ok-key-in-Enc-clause-adds : goal.returns-in_ok-key-in-Enc-clause-adds
returns-in_ok-key-in-Enc-clause-adds t c =
    let a = c.in_ok-body-in-Enc.ensures in
    let b = c.in_ok-key-in-Enc.ensures in
    added_two _ enc_joins (enc_of _ _ c.in-Enc.ensures c.requires.message) a.kept c.requires.values a.at a.adds b.kept b.at b.adds c.message_over-in-Enc.ensures.kept c.message_over-in-Enc.result c.message_over-in-Enc.ensures.adds

pub returns-in_ok-part-in-Inl-clause-adds : goal.returns-in_ok-part-in-Inl-clause-adds
returns-in_ok-part-in-Inl-clause-adds t c = let a = c.in_ok-part-in-Inl.ensures in added_one _ left_wraps (left_of _ _ c.in-Inl.ensures c.requires.message) a.at a.adds c.message_over-in-Inl.ensures.kept c.message_over-in-Inl.result c.message_over-in-Inl.ensures.adds

pub returns-in_ok-part-in-Inr-clause-adds : goal.returns-in_ok-part-in-Inr-clause-adds
returns-in_ok-part-in-Inr-clause-adds t c = let a = c.in_ok-part-in-Inr.ensures in added_one _ right_wraps (right_of _ _ c.in-Inr.ensures c.requires.message) a.at a.adds c.message_over-in-Inr.ensures.kept c.message_over-in-Inr.result c.message_over-in-Inr.ensures.adds

pub returns-in_ok-part-in-Hash-clause-adds : goal.returns-in_ok-part-in-Hash-clause-adds
returns-in_ok-part-in-Hash-clause-adds t c = let a = c.in_ok-part-in-Hash.ensures in added_one _ hash_wraps (hash_of _ _ c.in-Hash.ensures c.requires.message) a.at a.adds c.message_over-in-Hash.ensures.kept c.message_over-in-Hash.result c.message_over-in-Hash.ensures.adds
