use Rattle.spi_intern.proofs.Meanings.{key_node, node_says}
use Rattle.spi_intern.proofs.Putting.{put_key_ty}
use Rattle.spi_intern.proofs.Over.{key_over_adds}
use Rattle.spi_intern.proofs.store.Store.key_over.Goals as goal

pub put-requires : goal.put-requires
put-requires c = node_says (key_node c.requires.means)

pub returns-clause-at : goal.returns-clause-at
returns-clause-at c = put_key_ty _ _ _ c.put.ensures.kept c.put.result c.put.ensures.at

pub returns-clause-adds : goal.returns-clause-adds
returns-clause-adds c = key_over_adds _ _ _ c.put.ensures.kept c.put.ensures.messages c.put.result c.put.ensures.at c.put.ensures.grows
