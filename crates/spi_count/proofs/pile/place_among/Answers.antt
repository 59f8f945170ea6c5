use Rattle.std.proofs.Common.{refl}
use Rattle.spi_count.specs.declared.sum.AtomKind.TheVariants.{End}
use Rattle.spi_count.proofs.Piled.{none_next}
use Rattle.spi_count.proofs.pile.place_among.Goals as goal

pub loop-i-preserved : goal.loop-i-preserved
loop-i-preserved c = none_next c.args.kind c.args.late.now c.loop-i.i (record { kind = End; key = 0; count = 0 }) c.args.key c.loop-i-test.true c.loop-i.invariant (c.if-is_at.ensures.apart refl)
