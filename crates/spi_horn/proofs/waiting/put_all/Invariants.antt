use Rattle.std.proofs.Common.{map}
use Rattle.spi_horn.specs.Waits.{numbers, RulesWait}
use Rattle.spi_horn.proofs.waiting.put_all.Given as goal

abbrev pub invariant-loop-k : goal.invariant-loop-k
invariant-loop-k l = RulesWait l.fn.rules l.k (map numbers l.lists)
