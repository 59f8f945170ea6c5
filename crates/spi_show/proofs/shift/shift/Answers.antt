use Rattle.std.proofs.Common.{sym, subst, arith, length}
use Rattle.std.specs.List.Sorted.{IsNonDecreasing}
use Rattle.std.proofs.lemmas.List.Sorted.{IsNonDecreasingBy-from_sort}
use Rattle.spi_show.specs.Spelled.{IsShift}
use Rattle.spi_show.specs.Shifts.{IsSwept}
use Rattle.spi_show.proofs.Shifts.{shifted}
use Rattle.spi_show.proofs.shift.shift.Goals as goal

pub sweep-requires : goal.sweep-requires
sweep-requires c = subst IsNonDecreasing (sym c.deref.ensures.value) (IsNonDecreasingBy-from_sort (λ x. x) c.sort.new.self.items c.in_ok-sort.ensures.sorted)

pub returns : goal.returns
returns c =
    subst (IsShift c.args.free.now) (sym c.of.ensures) (shifted c.args.free.now c.in_ok-numbers.numbers.items c.sort.new.self.items c.sweep.result (omega (arith, c.in_ok-numbers.numbers.small)) c.in_ok-numbers.ensures c.in_ok-sort.ensures.permutation (subst (λ l. IsSwept l (length l) c.sweep.result) c.deref.ensures.value c.sweep.ensures))
