use Rattle.std.proofs.Common.{arith, ◌<◌, length, refl}
use Rattle.std.proofs.lemmas.Grind.{common_steps}
use Rattle.spi_tree.specs.Views.{msg_of}
use Rattle.spi_tree.specs.Listed.{more_list}
use Rattle.spi_tree.proofs.Rows.{put_tuple}
use Rattle.spi_tree.proofs.Joined.{joined_more}
use Rattle.spi_tree.proofs.listed_types.+messages.Goals as goal

pub put_messages-loop-message-preserved : goal.put_messages-loop-message-preserved
put_messages-loop-message-preserved t c =
    let lt : c.loop-message.message-index < length c.args.messages.now = omega arith in
    grind (arith, common_steps, joined_more more_list msg_of c.args.messages.now c.loop-message.message-index c.message-item.result lt)

pub put_message-returns-in_ok-put_mark-in-Tuple-3 : goal.put_message-returns-in_ok-put_mark-in-Tuple-3
put_message-returns-in_ok-put_mark-in-Tuple-3 t c =
    put_tuple _ _ _ _ _ _ _ _ _ _ _ _ _ c.in-Tuple.is
    refl refl refl
    c.in_ok-put_mark-in-Tuple.ensures c.in_ok-put_message-in-Tuple.ensures c.in_ok-put_mark-in-Tuple-2.ensures c.in_ok-put_message-in-Tuple-2.ensures c.in_ok-put_messages-in-Tuple.ensures c.in_ok-put_mark-in-Tuple-3.ensures
