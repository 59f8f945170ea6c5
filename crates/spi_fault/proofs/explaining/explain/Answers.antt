use Rattle.std.proofs.Common.{reverse}
use Rattle.spi_scope.specs.Chains.{chain_at}
use Rattle.spi_fault.proofs.Blaming.{exactly}
use Rattle.spi_fault.proofs.explaining.explain.Goals as goal

pub returns-in-Least-clause-exact : goal.returns-in-Least-clause-exact
returns-in-Least-clause-exact c = exactly (λ i. reverse (chain_at c.args.file.now.marks.scopes i)) _ _ c.left_over.result c.left_over.ensures
