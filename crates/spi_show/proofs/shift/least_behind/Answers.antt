use Rattle.std.proofs.Common.{sym, subst, arith, length}
use Rattle.std.specs.List.Sorted.{IsNonDecreasing}
use Rattle.std.proofs.lemmas.List.Sorted.{IsNonDecreasingBy-from_sort}
use Rattle.spi_show.specs.Shifts.{IsLeastBeside}
use Rattle.spi_show.proofs.Shifts.{leasted}
use Rattle.spi_show.proofs.shift.least_behind.Goals as goal

pub least_beside-requires : goal.least_beside-requires
least_beside-requires c = subst IsNonDecreasing (sym c.deref.ensures.value) (IsNonDecreasingBy-from_sort (λ x. x) c.sort.new.self.items c.in_ok-sort.ensures.sorted)

pub returns : goal.returns
returns c =
    leasted c.args.prefix.now c.args.words.now c.in_ok-numbers.numbers.items c.sort.new.self.items (omega (arith, c.in_ok-numbers.numbers.small)) c.in_ok-numbers.ensures c.in_ok-sort.ensures.permutation c.least_beside.result (subst (λ l. IsLeastBeside l (length l) c.least_beside.result) c.deref.ensures.value c.least_beside.ensures)
