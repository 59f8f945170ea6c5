use Rattle.spi_intern.proofs.Meanings.{un_node, made}
use Rattle.spi_intern.proofs.Adding.{adds_un, put_node}
use Rattle.spi_intern.proofs.store.Store.intern.Goals as goal

pub returns-in_ok-id-in-Un-clause-at : goal.returns-in_ok-id-in-Un-clause-at
returns-in_ok-id-in-Un-clause-at c = rw c.in-Un.is (made c.in_ok-id-in-Un.ensures.kept un_node c.in_ok-id-in-Un.ensures.at)

pub returns-in_ok-id-in-Un-clause-adds : goal.returns-in_ok-id-in-Un-clause-adds
returns-in_ok-id-in-Un-clause-adds c =
    let p = c.in_ok-id-in-Un.ensures in
    rw c.in-Un.is (adds_un p.messages (put_node _ p.kept un_node p.at p.grows))
