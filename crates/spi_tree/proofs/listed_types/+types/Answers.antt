use Rattle.std.proofs.Common.{arith, ◌<◌, length, refl}
use Rattle.std.proofs.lemmas.Grind.{common_steps}
use Rattle.spi_tree.specs.Views.{field_of}
use Rattle.spi_tree.specs.Listed.{field_list}
use Rattle.spi_tree.proofs.Rows.{put_tuple_ty}
use Rattle.spi_tree.proofs.Joined.{joined_more}
use Rattle.spi_tree.proofs.listed_types.+types.Goals as goal

pub put_fields-loop-field-preserved : goal.put_fields-loop-field-preserved
put_fields-loop-field-preserved t c =
    let lt : c.loop-field.field-index < length c.args.fields.now = omega arith in
    grind (arith, common_steps, joined_more field_list field_of c.args.fields.now c.loop-field.field-index c.field-item.result lt)

pub put_type-returns-in_ok-put_mark-in-Tuple-4 : goal.put_type-returns-in_ok-put_mark-in-Tuple-4
put_type-returns-in_ok-put_mark-in-Tuple-4 t c =
    put_tuple_ty _ _ _ _ _ _ _ _ _ _ _ _ _ _ _ _ c.in-Tuple.is
    refl refl refl refl
    c.in_ok-put_mark-in-Tuple.ensures c.in_ok-put_word-in-Tuple.ensures c.in_ok-put_mark-in-Tuple-2.ensures c.in_ok-put_type-in-Tuple.ensures c.in_ok-put_mark-in-Tuple-3.ensures c.in_ok-put_fields-in-Tuple.ensures c.in_ok-put_last-in-Tuple.ensures c.in_ok-put_mark-in-Tuple-4.ensures
