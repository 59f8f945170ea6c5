use Rattle.std.proofs.Common.{◌≡◌, ◌∙◌, ap}
use Rattle.spi_term.specs.Term.{pair, in_left, in_right, enc, hash}
use Rattle.spi_term.specs.View.{message}
use Rattle.spi_intern.specs.declared.messages.MsgPart.TheVariants.{Bound, Name, Unit as NoParts}
use Rattle.spi_intern.proofs.MessageLaws.{part_eq}
use Rattle.spi_replay.proofs.Same.{second_same, first_not_same, part_same, pair_one, enc_one, left_one, right_one, hash_one, no_pair, no_enc, no_left, no_right, no_hash, bound_same, name_same, unit_same}
use Rattle.spi_intern.proofs.Sized.{pair_of, enc_of, left_of, right_of, hash_of}
use Rattle.spi_replay.proofs.Smaller.{first_less, second_less, part_less}
use Rattle.spi_replay.proofs.listing.+is_message.Goals as goal

pub is_message-requires : goal.is_message-requires
is_message-requires t c = first_less c.decreases (pair_of c.args.store.now.messages c.args.id c.in-Pair-part.ensures c.requires)

pub is_message-requires-then-is_message : goal.is_message-requires-then-is_message
is_message-requires-then-is_message t c = second_less c.decreases (pair_of c.args.store.now.messages c.args.id c.in-Pair-part.ensures c.requires)

pub is_message-requires-in-Inl-part : goal.is_message-requires-in-Inl-part
is_message-requires-in-Inl-part t c = part_less c.decreases (left_of c.args.store.now.messages c.args.id c.in-Inl-part.ensures c.requires)

pub is_message-requires-in-Inr-part : goal.is_message-requires-in-Inr-part
is_message-requires-in-Inr-part t c = part_less c.decreases (right_of c.args.store.now.messages c.args.id c.in-Inr-part.ensures c.requires)

pub is_message-requires-in-Enc-part : goal.is_message-requires-in-Enc-part
is_message-requires-in-Enc-part t c = first_less c.decreases (enc_of c.args.store.now.messages c.args.id c.in-Enc-part.ensures c.requires)

pub is_message-requires-then-is_message-2 : goal.is_message-requires-then-is_message-2
is_message-requires-then-is_message-2 t c = second_less c.decreases (enc_of c.args.store.now.messages c.args.id c.in-Enc-part.ensures c.requires)

pub is_message-requires-in-Hash-part : goal.is_message-requires-in-Hash-part
is_message-requires-in-Hash-part t c = part_less c.decreases (hash_of c.args.store.now.messages c.args.id c.in-Hash-part.ensures c.requires)

pub returns-in-Bound : goal.returns-in-Bound
returns-in-Bound t c = let e : c.eq.result ≡ part_eq c.part-part.result (Bound c.in-Bound.i) = c.eq.ensures in e ∙ bound_same c.args.store.now.messages c.args.id c.part-part.result c.part-part.ensures c.requires (message c.args.m.now) c.in-Bound.i (ap message c.in-Bound.is)

pub returns-in-Name : goal.returns-in-Name
returns-in-Name t c = let e : c.eq-in-Name.result ≡ part_eq c.part-part.result (Name c.in-Name.x) = c.eq-in-Name.ensures in e ∙ name_same c.args.store.now.messages c.args.id c.part-part.result c.part-part.ensures c.requires (message c.args.m.now) c.in-Name.x (ap message c.in-Name.is)

pub returns-in-Unit : goal.returns-in-Unit
returns-in-Unit t c = let e : c.eq-in-Unit.result ≡ part_eq c.part-part.result NoParts = c.eq-in-Unit.ensures in e ∙ unit_same c.args.store.now.messages c.args.id c.part-part.result c.part-part.ensures c.requires (message c.args.m.now) (ap message c.in-Unit.is)

pub returns-then-is_message : goal.returns-then-is_message
returns-then-is_message t c = second_same pair pair_one (pair_of c.args.store.now.messages c.args.id c.in-Pair-part.ensures c.requires) c.in-Pair.two.value.first c.in-Pair.two.value.second (ap message c.in-Pair.is) (ap (λ v. v.first) c.deref.ensures) c.is_message.ensures c.if-is_message.true (ap (λ v. v.second) c.deref-then-is_message.ensures) c.is_message-then-is_message.ensures

pub returns-else-is_message : goal.returns-else-is_message
returns-else-is_message t c = first_not_same pair pair_one (pair_of c.args.store.now.messages c.args.id c.in-Pair-part.ensures c.requires) c.in-Pair.two.value.first c.in-Pair.two.value.second (ap message c.in-Pair.is) (ap (λ v. v.first) c.deref.ensures) c.is_message.ensures c.if-is_message.false

pub returns-in_default : goal.returns-in_default
returns-in_default t c = no_pair c.args.store.now.messages c.args.id c.part-part.result c.part-part.ensures c.requires (message c.args.m.now) (message c.in-Pair.two.value.first) (message c.in-Pair.two.value.second) (ap message c.in-Pair.is) c.in_default.not-Pair

pub returns-in-Inl-part : goal.returns-in-Inl-part
returns-in-Inl-part t c = part_same in_left left_one (left_of c.args.store.now.messages c.args.id c.in-Inl-part.ensures c.requires) (ap message c.in-Inl.is) c.deref-in-Inl-part.ensures c.is_message-in-Inl-part.ensures

pub returns-in_default-part : goal.returns-in_default-part
returns-in_default-part t c = no_left c.args.store.now.messages c.args.id c.part-part.result c.part-part.ensures c.requires (message c.args.m.now) (message c.in-Inl.a.value) (ap message c.in-Inl.is) c.in_default-part.not-Inl

pub returns-in-Inr-part : goal.returns-in-Inr-part
returns-in-Inr-part t c = part_same in_right right_one (right_of c.args.store.now.messages c.args.id c.in-Inr-part.ensures c.requires) (ap message c.in-Inr.is) c.deref-in-Inr-part.ensures c.is_message-in-Inr-part.ensures

pub returns-in_default-part-2 : goal.returns-in_default-part-2
returns-in_default-part-2 t c = no_right c.args.store.now.messages c.args.id c.part-part.result c.part-part.ensures c.requires (message c.args.m.now) (message c.in-Inr.a.value) (ap message c.in-Inr.is) c.in_default-part-2.not-Inr

pub returns-then-is_message-2 : goal.returns-then-is_message-2
returns-then-is_message-2 t c = second_same enc enc_one (enc_of c.args.store.now.messages c.args.id c.in-Enc-part.ensures c.requires) c.in-Enc.sealed.value.body c.in-Enc.sealed.value.key (ap message c.in-Enc.is) (ap (λ v. v.body) c.deref-in-Enc-part.ensures) c.is_message-in-Enc-part.ensures c.if-is_message-2.true (ap (λ v. v.key) c.deref-then-is_message-2.ensures) c.is_message-then-is_message-2.ensures

pub returns-else-is_message-2 : goal.returns-else-is_message-2
returns-else-is_message-2 t c = first_not_same enc enc_one (enc_of c.args.store.now.messages c.args.id c.in-Enc-part.ensures c.requires) c.in-Enc.sealed.value.body c.in-Enc.sealed.value.key (ap message c.in-Enc.is) (ap (λ v. v.body) c.deref-in-Enc-part.ensures) c.is_message-in-Enc-part.ensures c.if-is_message-2.false

pub returns-in_default-part-3 : goal.returns-in_default-part-3
returns-in_default-part-3 t c = no_enc c.args.store.now.messages c.args.id c.part-part.result c.part-part.ensures c.requires (message c.args.m.now) (message c.in-Enc.sealed.value.body) (message c.in-Enc.sealed.value.key) (ap message c.in-Enc.is) c.in_default-part-3.not-Enc

pub returns-in-Hash-part : goal.returns-in-Hash-part
returns-in-Hash-part t c = part_same hash hash_one (hash_of c.args.store.now.messages c.args.id c.in-Hash-part.ensures c.requires) (ap message c.in-Hash.is) c.deref-in-Hash-part.ensures c.is_message-in-Hash-part.ensures

pub returns-in_default-part-4 : goal.returns-in_default-part-4
returns-in_default-part-4 t c = no_hash c.args.store.now.messages c.args.id c.part-part.result c.part-part.ensures c.requires (message c.args.m.now) (message c.in-Hash.a.value) (ap message c.in-Hash.is) c.in_default-part-4.not-Hash
