use Rattle.std.proofs.Common.{◌≡◌, ◌&&◌, true, false, arith, sym, ap, ◌∙◌}
use Rattle.spi_intern.specs.Messages.{message_at}
use Rattle.spi_intern.proofs.Sized.{pair_of, enc_of, left_of, right_of, hash_of, bound_of, name_of, unit_of}
use Rattle.spi_message.specs.Plain.{plain}
use Rattle.spi_message.proofs.plain.+is_plain.Goals as goal

pub is_plain-requires : goal.is_plain-requires
is_plain-requires t c = let w = pair_of _ _ c.in-Pair.ensures c.requires in (omega (arith, w.size, c.decreases), w.first)

pub is_plain-requires-then-is_plain : goal.is_plain-requires-then-is_plain
is_plain-requires-then-is_plain t c = let w = pair_of _ _ c.in-Pair.ensures c.requires in (omega (arith, w.size, c.decreases), w.second)

pub is_plain-requires-in-Inl : goal.is_plain-requires-in-Inl
is_plain-requires-in-Inl t c = let w = left_of _ _ c.in-Inl.ensures c.requires in (omega (arith, w.size, c.decreases), w.part)

pub is_plain-requires-in-Inr : goal.is_plain-requires-in-Inr
is_plain-requires-in-Inr t c = let w = right_of _ _ c.in-Inr.ensures c.requires in (omega (arith, w.size, c.decreases), w.part)

pub is_plain-requires-in-Hash : goal.is_plain-requires-in-Hash
is_plain-requires-in-Hash t c = let w = hash_of _ _ c.in-Hash.ensures c.requires in (omega (arith, w.size, c.decreases), w.part)

pub returns-in-Bound : goal.returns-in-Bound
returns-in-Bound t c = ap (plain c.args.names c.args.depth) (bound_of _ _ c.in-Bound.ensures c.requires)

pub returns-in-Name : goal.returns-in-Name
returns-in-Name t c = ap (plain c.args.names c.args.depth) (name_of _ _ c.in-Name.ensures c.requires)

pub returns-in-Unit : goal.returns-in-Unit
returns-in-Unit t c = ap (plain c.args.names c.args.depth) (unit_of _ _ c.in-Unit.ensures c.requires)

pub returns-then-is_plain : goal.returns-then-is_plain
returns-then-is_plain t c =
    let ms = c.args.store.now.messages in
    let f = plain c.args.names c.args.depth in
    let q : f (message_at ms c.in-Pair.a) ≡ true = sym c.is_plain.ensures ∙ c.if-is_plain.true in
    c.is_plain-then-is_plain.ensures ∙ ap (λ z. z && f (message_at ms c.in-Pair.b)) (sym q) ∙ ap f (pair_of _ _ c.in-Pair.ensures c.requires).is

pub returns-else-is_plain : goal.returns-else-is_plain
returns-else-is_plain t c =
    let ms = c.args.store.now.messages in
    let f = plain c.args.names c.args.depth in
    let q : f (message_at ms c.in-Pair.a) ≡ false = sym c.is_plain.ensures ∙ c.if-is_plain.false in
    c.if-is_plain.false ∙ ap (λ z. z && f (message_at ms c.in-Pair.b)) (sym q) ∙ ap f (pair_of _ _ c.in-Pair.ensures c.requires).is

pub returns-in-Inl : goal.returns-in-Inl
returns-in-Inl t c = c.is_plain-in-Inl.ensures ∙ ap (plain c.args.names c.args.depth) (left_of _ _ c.in-Inl.ensures c.requires).is

pub returns-in-Inr : goal.returns-in-Inr
returns-in-Inr t c = c.is_plain-in-Inr.ensures ∙ ap (plain c.args.names c.args.depth) (right_of _ _ c.in-Inr.ensures c.requires).is

pub returns-in-Enc : goal.returns-in-Enc
returns-in-Enc t c = ap (plain c.args.names c.args.depth) (enc_of _ _ c.in-Enc.ensures c.requires).is

pub returns-in-Hash : goal.returns-in-Hash
returns-in-Hash t c = c.is_plain-in-Hash.ensures ∙ ap (plain c.args.names c.args.depth) (hash_of _ _ c.in-Hash.ensures c.requires).is
