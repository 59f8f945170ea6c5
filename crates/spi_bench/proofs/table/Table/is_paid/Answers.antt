use Rattle.std.proofs.Common.{◌∙◌, sym, Some, None, arith}
use Rattle.spi_bench.specs.Sums.{blocked, placed}
use Rattle.spi_bench.proofs.table.Table.is_paid.Goals as goal

pub returns : goal.returns
returns c =
    let h = c.args.self.now.summed in (
      λ t. let p = c.are_paid.ensures.0 t in record {
        effects = sym (h.each blocked tt) ∙ p.effects;
        others = sym (h.each (placed None) tt) ∙ p.others;
        once = λ i l. let a = h.each (placed (Some i)) l in let b = p.once i l in omega arith;
      },
      λ p. c.are_paid.ensures.1 (record {
        effects = h.each blocked tt ∙ p.effects;
        others = h.each (placed None) tt ∙ p.others;
        once = λ i l. let a = h.each (placed (Some i)) l in let b = p.once i l in omega arith;
      }),
    )
