use Rattle.spi_bench.specs.Sums as S
use Rattle.spi_bench.proofs.table.Table.nodes.Goals as goal

pub returns : goal.returns
returns c = c.args.self.now.summed.each S.nodes tt
