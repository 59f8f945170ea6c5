use Rattle.spi_audit.proofs.MessageKeys.{key_said, no_key_said, no_name}
use Rattle.spi_audit.proofs.messages.key_payload.Goals as goal

pub returns-in-Name-clause-some : goal.returns-in-Name-clause-some
returns-in-Name-clause-some c = key_said c.args.judge.now c.store.ensures c.args.m.place c.in-Name.x c.in-Name.ensures c.payload_at.result c.payload_at.ensures.some

pub returns-in-Name-clause-none : goal.returns-in-Name-clause-none
returns-in-Name-clause-none c = no_key_said c.args.judge.now c.store.ensures c.args.m.place c.in-Name.x c.in-Name.ensures c.payload_at.result c.payload_at.ensures.none

pub returns-in_default-clause-none : goal.returns-in_default-clause-none
returns-in_default-clause-none c = no_name c.args.judge.now c.store.ensures c.args.m.place c.part.result c.in_default.not-Name c.part.ensures
