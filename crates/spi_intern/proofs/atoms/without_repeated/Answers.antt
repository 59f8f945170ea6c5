use Rattle.spi_intern.proofs.Sorting.{get_any, left_next}
use Rattle.spi_intern.proofs.atoms.without_repeated.Goals as goal

pub loop-place-preserved : goal.loop-place-preserved
loop-place-preserved c = record { left = left_next c.args.ids.now c.loop-place.place _ _ _ _ _ c.loop-place-test.true (get_any c.args.ids.now c.loop-place.place _ _ c.loop-place-test.true) c.is_repeated-repeated.ensures c.in_ok-keep_unless.ensures c.loop-place.invariant.left }
