use Rattle.spi_intern.proofs.Meanings.{pair_node, node_says}
use Rattle.spi_intern.proofs.Putting.{put_pair_ty}
use Rattle.spi_intern.proofs.Over.{pair_over_adds}
use Rattle.spi_intern.proofs.store.Store.pair_over.Goals as goal

pub put-requires : goal.put-requires
put-requires c = node_says (pair_node c.requires.first.means c.requires.second.means)

pub returns : goal.returns
returns c = record { at = put_pair_ty _ _ _ _ c.put.ensures.kept c.put.result c.put.ensures.at; adds = pair_over_adds _ _ _ _ c.put.ensures.kept c.put.ensures.messages c.put.result c.put.ensures.at c.put.ensures.grows; kept = c.put.ensures.kept }
