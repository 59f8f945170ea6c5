use Rattle.std.proofs.Common.{arith}
use Rattle.spi_intern.proofs.Sorting.{cut_order, cut_to, short_order, short_cut}
use Rattle.spi_intern.proofs.atoms.canonical.Goals as goal

pub returns-clause-order : goal.returns-clause-order
returns-clause-order c = cut_order _ _ c.deref.ensures.value c.in_ok-sort.ensures.sorted c.without_repeated.result c.without_repeated.ensures

pub returns-clause-counts : goal.returns-clause-counts
returns-clause-counts c = cut_to _ _ _ c.deref.ensures.value c.in_ok-sort.ensures.permutation c.in_ok-sort.ensures.sorted c.without_repeated.result c.without_repeated.ensures

pub returns-then-len-lt2-clause-order : goal.returns-then-len-lt2-clause-order
returns-then-len-lt2-clause-order c = short_order c.args.ids.items (omega (arith, c.len.ensures, c.if-len-lt2.true))

pub returns-then-len-lt2-clause-counts : goal.returns-then-len-lt2-clause-counts
returns-then-len-lt2-clause-counts c = short_cut c.args.ids.items (omega (arith, c.len.ensures, c.if-len-lt2.true))
