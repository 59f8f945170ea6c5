use Rattle.std.proofs.Common.{◌≡◌, map, []}
use Rattle.std.specs.Prelude.{replicate}
use Rattle.spi_horn.specs.Waits.{numbers}
use Rattle.spi_horn.proofs.waiting.empty.Given as goal

abbrev pub invariant-loop-number : goal.invariant-loop-number
invariant-loop-number l = map numbers l.lists.items ≡ replicate l._number []
