use Rattle.spi_intern.proofs.Meanings.{sum_node, node_says}
use Rattle.spi_intern.proofs.Putting.{put_sum_ty}
use Rattle.spi_intern.proofs.Over.{sum_over_adds}
use Rattle.spi_intern.proofs.store.Store.sum_over.Goals as goal

pub put-requires : goal.put-requires
put-requires c = node_says (sum_node c.requires.left.means c.requires.right.means)

pub returns : goal.returns
returns c = record { at = put_sum_ty _ _ _ _ c.put.ensures.kept c.put.result c.put.ensures.at; adds = sum_over_adds _ _ _ _ c.put.ensures.kept c.put.ensures.messages c.put.result c.put.ensures.at c.put.ensures.grows; kept = c.put.ensures.kept }
