use Rattle.std.proofs.Common.{arith, IfSome, IfNone, subst}
use Rattle.spi_intern.specs.declared.store.Store.{Store}
use Rattle.spi_message.specs.Asking.{IsKeyFor, IsNoKey}
use Rattle.spi_message.proofs.Tested.{nonce_given}
use Rattle.spi_audit.proofs.MessageKeys.{key_at, no_key_at, no_key_past}
use Rattle.spi_audit.proofs.Parts.{given_there}
use Rattle.spi_audit.proofs.messages.payload_at.Goals as goal

pub payload_of-requires : goal.payload_of-requires
payload_of-requires c =
    given_there c.store.ensures (nonce_given c.args.judge.now c.args.x record { env = c.stands_for_one.ensures.env; stands = c.stands_for_one.ensures.stands } c.at.ensures)

pub returns-then-x-len-clause-some : goal.returns-then-x-len-clause-some
returns-then-x-len-clause-some c =
    key_at c.args.judge.now c.args.x c.at.result c.at.ensures c.payload_of.result (subst (λ (s : Store). IfSome c.payload_of.result (IsKeyFor s c.at.result)) c.store.ensures c.payload_of.ensures.some)

pub returns-then-x-len-clause-none : goal.returns-then-x-len-clause-none
returns-then-x-len-clause-none c =
    no_key_at c.args.judge.now c.args.x c.at.result c.at.ensures c.payload_of.result (subst (λ (s : Store). IfNone c.payload_of.result (IsNoKey s c.at.result)) c.store.ensures c.payload_of.ensures.none)

pub returns-else-x-len-clause-none : goal.returns-else-x-len-clause-none
returns-else-x-len-clause-none c = no_key_past c.args.judge.now c.args.x (λ l. omega (arith, c.len.ensures, c.if-x-len.false))
