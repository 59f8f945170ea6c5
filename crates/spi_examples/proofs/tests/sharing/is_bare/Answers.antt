use Rattle.std.proofs.Common.{[], sym, subst}
use Rattle.spi_intern.specs.Table.{TellsAll, tells_none}
use Rattle.spi_intern.specs.Atoms.{SaysAtom}
use Rattle.spi_examples.proofs.tests.sharing.is_bare.Goals as goal

pub nonce_over-requires : goal.nonce_over-requires
nonce_over-requires c = record {
  effect = [];
  each = subst (λ zs. TellsAll (SaysAtom c.args.store.now.messages) zs []) (sym c.new.ensures.items) tells_none;
}
