use Rattle.spi_intern.proofs.Meanings.{un_node, made}
use Rattle.spi_intern.proofs.Adding.{adds_un, put_node}
use Rattle.spi_intern.proofs.store.Store.un.Goals as goal

pub returns-clause-at : goal.returns-clause-at
returns-clause-at c = made c.in_ok-id.ensures.kept un_node c.in_ok-id.ensures.at

pub returns-clause-adds : goal.returns-clause-adds
returns-clause-adds c =
    let p = c.in_ok-id.ensures in
    adds_un p.messages (put_node _ p.kept un_node p.at p.grows)
