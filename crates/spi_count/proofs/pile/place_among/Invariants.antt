use Rattle.std.proofs.Common.{◌≡◌, take}
use Rattle.spi_count.specs.Piles.{waits}
use Rattle.spi_count.proofs.pile.place_among.Given as goal

abbrev pub invariant-loop-i : goal.invariant-loop-i
invariant-loop-i l = waits l.kind (take l.i l.late) l.key ≡ 0
