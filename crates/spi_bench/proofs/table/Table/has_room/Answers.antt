use Rattle.std.proofs.Common.{arith}
use Rattle.spi_bench.specs.Sums.{atoms}
use Rattle.spi_bench.proofs.table.Table.has_room.Goals as goal

pub returns : goal.returns
returns c = λ t. let a = c.args.self.now.summed.each atoms tt in let b = c.fits.ensures t in omega arith
