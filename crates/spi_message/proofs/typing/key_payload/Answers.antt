use Rattle.std.proofs.Common.{sym}
use Rattle.spi_intern.proofs.Sized.{name_of}
use Rattle.spi_message.proofs.Standing.{found_at, missing_at}
use Rattle.spi_message.proofs.Questions.{payload_given, payload_some, payload_none, no_payload_name, no_payload_part}
use Rattle.spi_message.proofs.typing.key_payload.Goals as goal

pub payload_of-requires : goal.payload_of-requires
payload_of-requires c = payload_given c.in-Name.x c.requires.names (found_at c.args.env.now c.in-Name.x c.in-Some.t.now _ c.in-Some.ensures.lookup.0 c.in-Some.ensures.lookup.1)

pub returns-in-Some-clause-some : goal.returns-in-Some-clause-some
returns-in-Some-clause-some c = payload_some _ _ (sym (name_of _ _ c.in-Name.ensures c.requires.message)) (found_at c.args.env.now c.in-Name.x c.in-Some.t.now _ c.in-Some.ensures.lookup.0 c.in-Some.ensures.lookup.1) c.payload_of.result c.payload_of.ensures.some

pub returns-in-Some-clause-none : goal.returns-in-Some-clause-none
returns-in-Some-clause-none c = payload_none _ _ (sym (name_of _ _ c.in-Name.ensures c.requires.message)) (found_at c.args.env.now c.in-Name.x c.in-Some.t.now _ c.in-Some.ensures.lookup.0 c.in-Some.ensures.lookup.1) c.payload_of.result c.payload_of.ensures.none

pub returns-in-None-clause-none : goal.returns-in-None-clause-none
returns-in-None-clause-none c = no_payload_name (sym (name_of _ _ c.in-Name.ensures c.requires.message)) (missing_at c.args.env.now c.in-Name.x c.in-None.ensures.lookup.0)

pub returns-in_default : goal.returns-in_default
returns-in_default c = record { some = tt; none = no_payload_part c.part.ensures c.requires.message c.in_default.not-Name }
