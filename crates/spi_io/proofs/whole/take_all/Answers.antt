use Rattle.std.proofs.Common.{arith, ◌++◌, take}
use Rattle.std.proofs.lemmas.Grind.{common_steps}
use Rattle.spi_io.proofs.Known.{consumes_more}
use Rattle.spi_io.proofs.whole.take_all.Goals as goal

pub returns-in-Err-extend_from_slice-clause-taken : goal.returns-in-Err-extend_from_slice-clause-taken
returns-in-Err-extend_from_slice-clause-taken g c = (
  c.loop-piece.taken.items ++ take c.in-Ok.count c.read.new.into,
  grind (arith, common_steps),
  consumes_more _ _ _ _ _ c.loop-piece.invariant.bytes c.in-Ok.ensures.bytes.0,
)
