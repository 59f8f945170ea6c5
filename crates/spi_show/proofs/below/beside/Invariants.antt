use Rattle.std.proofs.Common.{◌≡◌, ◌≤◌, length, take}
use Rattle.spi_show.proofs.below.beside.Given as goal

abbrev pub invariant-loop-i : goal.invariant-loop-i
invariant-loop-i l = record {
  within : l.i ≤ length l.rest;
  same : take l.i l.rest ≡ take l.i l.piece;
}
