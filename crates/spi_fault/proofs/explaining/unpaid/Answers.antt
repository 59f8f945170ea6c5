use Rattle.std.proofs.Common.{reverse}
use Rattle.spi_scope.specs.Chains.{chain_at}
use Rattle.spi_fault.proofs.Blaming.{atom_unpaid, nothing_unpaid}
use Rattle.spi_fault.proofs.explaining.unpaid.Goals as goal

pub returns-in-Some : goal.returns-in-Some
returns-in-Some c = atom_unpaid (λ i. reverse (chain_at c.args.file.now.marks.scopes i)) _ c.in-Some.found (rw c.in-Some.is at c.in_ok-found.ensures)

pub returns-in-None : goal.returns-in-None
returns-in-None c = nothing_unpaid (λ i. reverse (chain_at c.args.file.now.marks.scopes i)) _ (rw c.in-None.is at c.in_ok-found.ensures)
