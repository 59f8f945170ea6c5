use Rattle.std.proofs.Common.{refl}
use Rattle.spi_count.specs.declared.sum.AtomKind.TheVariants.{End}
use Rattle.spi_count.proofs.Piled.{from_next, from_here}
use Rattle.spi_count.proofs.pile.waits_from.Goals as goal

pub returns-then-is_from-clause-reached : goal.returns-then-is_from-clause-reached
returns-then-is_from-clause-reached c e = from_here c.args.late.now c.loop-atom.atom-index (record { kind = End; key = 0; count = 0 }) c.args.least c.loop-atom-test.true (c.if-is_from.ensures.from refl)

pub loop-atom-preserved : goal.loop-atom-preserved
loop-atom-preserved c = from_next c.args.late.now c.loop-atom.atom-index (record { kind = End; key = 0; count = 0 }) c.args.least c.loop-atom-test.true c.loop-atom.invariant (c.if-is_from.ensures.below refl)
