use Rattle.std.proofs.Common.{refl}
use Rattle.spi_intern.proofs.MessageLaws.{says_it}
use Rattle.spi_intern.proofs.Putting.{put_message}
use Rattle.spi_intern.proofs.Over.{message_over_adds}
use Rattle.spi_intern.proofs.store.Store.message_over.Goals as goal

pub put-requires : goal.put-requires
put-requires c = says_it c.requires.says

pub returns-clause-at : goal.returns-clause-at
returns-clause-at c = put_message _ _ _ c.put.result c.put.ensures.at

pub returns-clause-adds : goal.returns-clause-adds
returns-clause-adds c = message_over_adds _ _ _ refl c.put.result c.put.ensures.at c.put.ensures.grows
