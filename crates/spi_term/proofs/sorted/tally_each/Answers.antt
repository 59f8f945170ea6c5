use Rattle.std.proofs.Common.{map, take, sym, subst, arith}
use Rattle.std.proofs.lemmas.List.{length-map}
use Rattle.spi_term.specs.View.{atom, pointed}
use Rattle.spi_term.specs.Looking.{IsTally}
use Rattle.spi_term.proofs.Lookup.{tally_raised, few_raised, map_take_more}
use Rattle.spi_term.proofs.sorted.tally_each.Goals as goal

pub loop-a-preserved : goal.loop-a-preserved
loop-a-preserved c = record {
  few = few_raised c.raise.ensures.place c.loop-a.counts c.raise.new.counts c.loop-a.a-index c.raise.ensures.is c.loop-a.invariant.few;
  so_far = subst (λ l. IsTally (pointed c.args.sorted.now) l c.raise.new.counts) (sym (map_take_more atom c.args.es.now c.loop-a.a-index c.a-item.result c.loop-a-test.true c.a-item.is))
      (tally_raised (pointed c.args.sorted.now) (map atom (take c.loop-a.a-index c.args.es.now)) (atom c.a-item.result) c.loop-a.counts c.raise.new.counts (omega (arith, length-map c.args.sorted.now (λ r. atom r.now))) c.loop-a.invariant.so_far c.raise.ensures);
}
