use Rattle.std.proofs.Common.{◌≡◌, take}
use Rattle.spi_weave.proofs.copies.words.Given as goal

abbrev pub invariant-loop-w : goal.invariant-loop-w
invariant-loop-w l = l.all.items ≡ take l.w-index l.ws
