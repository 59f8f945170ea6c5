use Rattle.std.proofs.Common.{arith}
use Rattle.spi_message.proofs.FillsTypes.{pair_ty_of, sum_ty_of, key_ty_of, nonce_ty_of, un_of, unit_ty_of}
use Rattle.spi_message.proofs.Plains.{un_plain, unit_plain, pair_plain, sum_plain, key_plain, nonce_plain}
use Rattle.spi_message.proofs.plain.+is_plain_type.Goals as goal

pub is_plain_type-requires : goal.is_plain_type-requires
is_plain_type-requires t c = let w = pair_ty_of c.in-Pair.ensures c.requires in (omega (arith, w.size, c.decreases), w.first)

pub is_plain_type-requires-then-is_plain_type : goal.is_plain_type-requires-then-is_plain_type
is_plain_type-requires-then-is_plain_type t c = let w = pair_ty_of c.in-Pair.ensures c.requires in (omega (arith, w.size, c.decreases), w.second)

pub is_plain_type-requires-in-Sum : goal.is_plain_type-requires-in-Sum
is_plain_type-requires-in-Sum t c = let w = sum_ty_of c.in-Sum.ensures c.requires in (omega (arith, w.size, c.decreases), w.first)

pub is_plain_type-requires-then-is_plain_type-2 : goal.is_plain_type-requires-then-is_plain_type-2
is_plain_type-requires-then-is_plain_type-2 t c = let w = sum_ty_of c.in-Sum.ensures c.requires in (omega (arith, w.size, c.decreases), w.second)

pub is_plain_type-requires-in-Key : goal.is_plain_type-requires-in-Key
is_plain_type-requires-in-Key t c = let w = key_ty_of c.in-Key.ensures c.requires in (omega (arith, w.size, c.decreases), w.part)

pub are_plain_atoms-requires : goal.are_plain_atoms-requires
are_plain_atoms-requires t c = (nonce_ty_of c.in-Nonce.ensures c.requires).atoms

pub returns-in-Un : goal.returns-in-Un
returns-in-Un t c h = un_plain (un_of c.in-Un.ensures)

pub returns-in-Unit : goal.returns-in-Unit
returns-in-Unit t c h = unit_plain (unit_ty_of c.in-Unit.ensures)

pub returns-then-is_plain_type : goal.returns-then-is_plain_type
returns-then-is_plain_type t c h = pair_plain (pair_ty_of c.in-Pair.ensures c.requires) (omega arith) (c.is_plain_type.ensures c.if-is_plain_type.true) (c.is_plain_type-then-is_plain_type.ensures h)

pub returns-then-is_plain_type-2 : goal.returns-then-is_plain_type-2
returns-then-is_plain_type-2 t c h = sum_plain (sum_ty_of c.in-Sum.ensures c.requires) (c.is_plain_type-in-Sum.ensures c.if-is_plain_type-2.true) (c.is_plain_type-then-is_plain_type-2.ensures h)

pub returns-in-Key : goal.returns-in-Key
returns-in-Key t c h = key_plain (key_ty_of c.in-Key.ensures c.requires) (c.is_plain_type-in-Key.ensures h)

pub returns-in-Nonce : goal.returns-in-Nonce
returns-in-Nonce t c h = nonce_plain (nonce_ty_of c.in-Nonce.ensures c.requires) (c.are_plain_atoms.ensures h)
