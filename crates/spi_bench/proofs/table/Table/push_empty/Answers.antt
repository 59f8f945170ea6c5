use Rattle.std.proofs.Common.{⊎_elim, subst, sym}
use Rattle.spi_bench.specs.Sums.{AreSums}
use Rattle.spi_bench.proofs.Totals.{sums_padded}
use Rattle.spi_bench.proofs.table.Table.push_empty.Goals as goal

pub invariant_of-self : goal.invariant_of-self
invariant_of-self c =
    let h = c.args.self.now.summed in
    record {
      summed = ⊎_elim (λ e. subst (λ l. AreSums c.args.self.now.sums l) (sym e) h) (λ e. sums_padded c.args.self.now.sums c.args.self.now.slots.items _ h e) c.push_none.ensures.padded;
    }
