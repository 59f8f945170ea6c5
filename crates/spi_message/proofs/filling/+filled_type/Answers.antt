use Rattle.std.proofs.Common.{arith, ◌∙◌}
use Rattle.spi_intern.proofs.Meanings.{terms_same, terms_more}
use Rattle.spi_message.proofs.Fills.{all_below_keeps}
use Rattle.spi_message.proofs.FillsTypes.{given_keeps, size_of_kept, pair_ty_of, sum_ty_of, key_ty_of, nonce_ty_of, un_of, unit_ty_of, fills_given, depth_stands, fills_un, fills_unit_ty, fills_pair_ty, fills_sum_ty, fills_key_ty, fills_nonce_ty, given_atoms}
use Rattle.spi_message.proofs.Added.{added_un, added_unit_ty, added_pair_ty, added_sum_ty, added_key_ty, added_nonce_ty}
use Rattle.spi_message.proofs.filling.+filled_type.Goals as goal

pub filled_type-requires : goal.filled_type-requires
filled_type-requires t c =
    let w = pair_ty_of c.in-Pair.ensures c.requires.ty in
    (omega (arith, w.size, c.decreases), (c.requires.depth, (w.first, c.requires.values)))

pub filled_type-requires-in-Pair : goal.filled_type-requires-in-Pair
filled_type-requires-in-Pair t c =
    let w = pair_ty_of c.in-Pair.ensures c.requires.ty in
    let k = c.in_ok-first-in-Pair.ensures.kept in
    (omega (arith, w.size, size_of_kept c.in-Pair.b k w.second, c.decreases), (c.deeper.ensures.limit, (given_keeps k w.second, all_below_keeps k.messages c.requires.values)))

pub pair_over-requires : goal.pair_over-requires
pair_over-requires t c =
    let w = pair_ty_of c.in-Pair.ensures c.requires.ty in
    record { first = given_keeps c.in_ok-second-in-Pair.ensures.kept (fills_given (depth_stands c.requires.depth) c.in_ok-first-in-Pair.ensures.at w.first); second = fills_given (depth_stands c.deeper.ensures.limit) c.in_ok-second-in-Pair.ensures.at (given_keeps c.in_ok-first-in-Pair.ensures.kept w.second) }

pub returns-in_ok-second-in-Pair : goal.returns-in_ok-second-in-Pair
returns-in_ok-second-in-Pair t c =
    let w = pair_ty_of c.in-Pair.ensures c.requires.ty in
    let a = c.in_ok-first-in-Pair.ensures in
    let b = c.in_ok-second-in-Pair.ensures in
    record { at = fills_pair_ty _ w a.kept c.requires.values a.at c.deeper.ensures.next b.kept b.at c.pair_over.result c.pair_over.ensures.at; adds = added_pair_ty _ w a.kept c.requires.values a.at a.adds c.deeper.ensures.next b.kept b.at b.adds c.pair_over.ensures.kept c.pair_over.result c.pair_over.ensures.adds; kept = terms_more a.kept (terms_more b.kept c.pair_over.ensures.kept) }

pub filled_type-requires-in-Sum : goal.filled_type-requires-in-Sum
filled_type-requires-in-Sum t c =
    let w = sum_ty_of c.in-Sum.ensures c.requires.ty in
    (omega (arith, w.size, c.decreases), (c.requires.depth, (w.first, c.requires.values)))

pub filled_type-requires-in-Sum-2 : goal.filled_type-requires-in-Sum-2
filled_type-requires-in-Sum-2 t c =
    let w = sum_ty_of c.in-Sum.ensures c.requires.ty in
    let k = c.in_ok-left-in-Sum.ensures.kept in
    (omega (arith, w.size, size_of_kept c.in-Sum.b k w.second, c.decreases), (c.requires.depth, (given_keeps k w.second, all_below_keeps k.messages c.requires.values)))

pub sum_over-requires : goal.sum_over-requires
sum_over-requires t c =
    let w = sum_ty_of c.in-Sum.ensures c.requires.ty in
    record { left = given_keeps c.in_ok-right-in-Sum.ensures.kept (fills_given (depth_stands c.requires.depth) c.in_ok-left-in-Sum.ensures.at w.first); right = fills_given (depth_stands c.requires.depth) c.in_ok-right-in-Sum.ensures.at (given_keeps c.in_ok-left-in-Sum.ensures.kept w.second) }

pub returns-in_ok-right-in-Sum : goal.returns-in_ok-right-in-Sum
returns-in_ok-right-in-Sum t c =
    let w = sum_ty_of c.in-Sum.ensures c.requires.ty in
    let a = c.in_ok-left-in-Sum.ensures in
    let b = c.in_ok-right-in-Sum.ensures in
    record { at = fills_sum_ty _ w a.kept c.requires.values a.at b.kept b.at c.sum_over.result c.sum_over.ensures.at; adds = added_sum_ty _ w a.kept c.requires.values a.at a.adds b.kept b.at b.adds c.sum_over.ensures.kept c.sum_over.result c.sum_over.ensures.adds; kept = terms_more a.kept (terms_more b.kept c.sum_over.ensures.kept) }

pub filled_type-requires-in-Key : goal.filled_type-requires-in-Key
filled_type-requires-in-Key t c =
    let w = key_ty_of c.in-Key.ensures c.requires.ty in
    (omega (arith, w.size, c.decreases), (c.requires.depth, (w.part, c.requires.values)))

pub key_over-requires : goal.key_over-requires
key_over-requires t c = fills_given (depth_stands c.requires.depth) c.in_ok-payload-in-Key.ensures.at (key_ty_of c.in-Key.ensures c.requires.ty).part

pub returns-in_ok-payload-in-Key : goal.returns-in_ok-payload-in-Key
returns-in_ok-payload-in-Key t c =
    let w = key_ty_of c.in-Key.ensures c.requires.ty in
    let a = c.in_ok-payload-in-Key.ensures in
    record { at = fills_key_ty _ w a.at c.key_over.result c.key_over.ensures.at; adds = added_key_ty _ w a.at a.adds c.key_over.ensures.kept c.key_over.result c.key_over.ensures.adds; kept = terms_more a.kept c.key_over.ensures.kept }

pub filled_atoms-requires-clause-atoms : goal.filled_atoms-requires-clause-atoms
filled_atoms-requires-clause-atoms t c =
    let e = c.deref.ensures.value ∙ c.in_ok-atoms-in-Nonce.ensures.items_if_clones_equal (λ x y h. h) in
    rw e ((nonce_ty_of c.in-Nonce.ensures c.requires.ty).atoms)

pub nonce_over-requires : goal.nonce_over-requires
nonce_over-requires t c = given_atoms c.requires.depth c.in_ok-filled-in-Nonce.ensures.at

pub returns-in-Un : goal.returns-in-Un
returns-in-Un t c = let u = un_of c.in-Un.ensures in record { at = fills_un u; adds = added_un u; kept = terms_same _ }

pub returns-in-Unit : goal.returns-in-Unit
returns-in-Unit t c = let u = unit_ty_of c.in-Unit.ensures in record { at = fills_unit_ty u; adds = added_unit_ty u; kept = terms_same _ }

pub returns-in_ok-filled-in-Nonce : goal.returns-in_ok-filled-in-Nonce
returns-in_ok-filled-in-Nonce t c =
    let w = nonce_ty_of c.in-Nonce.ensures c.requires.ty in
    let e = c.deref.ensures.value ∙ c.in_ok-atoms-in-Nonce.ensures.items_if_clones_equal (λ x y h. h) in
    let a = c.in_ok-filled-in-Nonce.ensures in
    record { at = fills_nonce_ty c.filled_atoms.new.store _ w e a.at c.nonce_over.result c.nonce_over.ensures.at; adds = added_nonce_ty c.filled_atoms.new.store _ w e a.at a.adds c.nonce_over.ensures.kept c.nonce_over.result c.nonce_over.ensures.adds; kept = terms_more a.kept c.nonce_over.ensures.kept }
