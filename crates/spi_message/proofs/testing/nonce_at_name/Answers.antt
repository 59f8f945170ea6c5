use Rattle.std.proofs.Common.{◌≡◌, Some, subst, sym, arith}
use Rattle.spi_term.specs.Term.{Ty}
use Rattle.spi_intern.specs.Given.{IsGiven}
use Rattle.spi_intern.specs.Meaning.{Means}
use Rattle.spi_intern.specs.declared.store.Store.{Store}
use Rattle.spi_message.specs.Tests.{nonce_in}
use Rattle.spi_message.specs.Forms.{is_nonce}
use Rattle.spi_message.proofs.Tested.{nonce_found, nonce_missed, nonce_past, nonce_given}
use Rattle.spi_message.proofs.testing.nonce_at_name.Goals as goal

pub returns-then-x-len-clause-none : goal.returns-then-x-len-clause-none
returns-then-x-len-clause-none c = nonce_past c.args.judge.now c.args.x (λ l. omega (arith, c.len.ensures, c.if-x-len.true))

pub is_nonce_type-requires : goal.is_nonce_type-requires
is_nonce_type-requires c =
    subst (λ (s : Store). IsGiven s c.at-t.result.place) (sym c.store-store.ensures) (nonce_given c.args.judge.now c.args.x c.requires c.at-t.ensures)

pub returns-then-is_nonce_type-clause-some : goal.returns-then-is_nonce_type-clause-some
returns-then-is_nonce_type-clause-some c =
    nonce_found c.args.judge.now c.args.x c.at-t.ensures (subst (λ (s : Store). (u : Ty) → Means s c.at-t.result.place u → c.is_nonce_type.result ≡ is_nonce (nonce_in (Some u))) c.store-store.ensures c.is_nonce_type.ensures) c.if-is_nonce_type.true

pub returns-else-is_nonce_type-clause-none : goal.returns-else-is_nonce_type-clause-none
returns-else-is_nonce_type-clause-none c =
    nonce_missed c.args.judge.now c.args.x c.at-t.ensures (subst (λ (s : Store). (u : Ty) → Means s c.at-t.result.place u → c.is_nonce_type.result ≡ is_nonce (nonce_in (Some u))) c.store-store.ensures c.is_nonce_type.ensures) c.if-is_nonce_type.false
