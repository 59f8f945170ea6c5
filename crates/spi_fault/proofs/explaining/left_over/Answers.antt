use Rattle.std.proofs.Common.{reverse}
use Rattle.spi_scope.specs.Chains.{chain_at}
use Rattle.spi_fault.proofs.Blaming.{left_over}
use Rattle.spi_fault.proofs.explaining.left_over.Goals as goal

pub returns : goal.returns
returns c = left_over (λ i. reverse (chain_at c.args.file.now.marks.scopes i)) _ _ _ c.unpaid.result c.requires c.unpaid.ensures
