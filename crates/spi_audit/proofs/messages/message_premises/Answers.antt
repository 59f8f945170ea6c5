use Rattle.spi_audit.proofs.MessageParts.{first_below, key_below, hashed_below, bound_not}
use Rattle.spi_audit.proofs.messages.message_premises.Goals as goal

pub of_pair-requires-clause-message : goal.of_pair-requires-clause-message
of_pair-requires-clause-message c = first_below c.store.ensures c.args.m.place c.requires.message c.in-Pair.ensures

pub of_sealed-requires-clause-key : goal.of_sealed-requires-clause-key
of_sealed-requires-clause-key c = key_below c.store.ensures c.args.m.place c.requires.message c.in-Enc.ensures

pub of_hash-requires-clause-message : goal.of_hash-requires-clause-message
of_hash-requires-clause-message c = hashed_below c.store.ensures c.args.m.place c.requires.message c.in-Hash.ensures

pub returns-in-Bound-clause-answer : goal.returns-in-Bound-clause-answer
returns-in-Bound-clause-answer c = bound_not c.args.judge.now c.args.rule c.args.t c.args.m c.in-Bound.field-0 c.store.ensures c.in-Bound.ensures
