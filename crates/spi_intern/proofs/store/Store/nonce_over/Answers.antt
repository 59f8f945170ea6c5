use Rattle.std.proofs.Common.{refl}
use Rattle.spi_intern.specs.Typed.{says_nonce}
use Rattle.spi_intern.proofs.Tables.{keeps_same}
use Rattle.spi_intern.proofs.Putting.{put_nonce_ty}
use Rattle.spi_intern.proofs.Over.{nonce_over_adds}
use Rattle.spi_intern.proofs.store.Store.nonce_over.Goals as goal

pub put-requires-2 : goal.put-requires-2
put-requires-2 c = says_nonce

pub returns-clause-at : goal.returns-clause-at
returns-clause-at c = put_nonce_ty _ _ _ _ _ _ c.count.ensures.distinct c.in_ok-ids.ensures.counts c.in_ok-ids.ensures.order record { messages = keeps_same refl; effects = c.in_ok-place.ensures.kept; types = keeps_same refl } c.in_ok-place.ensures.at c.put-2.ensures.kept c.put-2.result c.put-2.ensures.at

pub returns-clause-adds : goal.returns-clause-adds
returns-clause-adds c = nonce_over_adds _ _ _ _ _ _ c.count.ensures.distinct c.in_ok-ids.ensures.counts c.in_ok-ids.ensures.order refl refl c.in_ok-place.ensures.at c.put-2.ensures.kept c.put-2.ensures.messages c.put-2.result c.put-2.ensures.at c.put-2.ensures.grows
