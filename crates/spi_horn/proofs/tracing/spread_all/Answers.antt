use Rattle.std.proofs.Common.{◌∙◌, arith}
use Rattle.spi_horn.proofs.Spreading.{spread_back}
use Rattle.spi_horn.proofs.tracing.spread_all.Goals as goal

pub loop-t-preserved : goal.loop-t-preserved
loop-t-preserved c =
    let (start, o) = c.requires.order in
    let i = c.loop-t.invariant in
    let s = c.spread.ensures in
    let count = s.count in
    let within = i.within in
    record {
      spread = λ at first. spread_back _ start _ _ at c.loop-t.t _ _ (omega arith) o s (i.spread at first);
      count = s.count ∙ i.count;
      within = omega (arith, count, within);
    }
