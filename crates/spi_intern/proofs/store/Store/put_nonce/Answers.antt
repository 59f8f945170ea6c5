use Rattle.spi_intern.specs.Typed.{says_nonce}
use Rattle.spi_intern.proofs.store.Store.put_nonce.Goals as goal

pub put-requires : goal.put-requires
put-requires c = says_nonce
