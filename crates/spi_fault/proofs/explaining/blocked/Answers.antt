use Rattle.std.proofs.Common.{reverse}
use Rattle.spi_scope.specs.Chains.{chain_at}
use Rattle.spi_fault.proofs.Heads.{few_at, fits_at}
use Rattle.spi_fault.proofs.Blaming.{blocks_within, given_here, never_none, blames}
use Rattle.spi_fault.proofs.explaining.blocked.Goals as goal

pub reached-requires : goal.reached-requires
reached-requires c = blocks_within _ c.requires

pub node-requires : goal.node-requires
node-requires c = blocks_within _ c.requires

pub first_failing-requires-clause-few : goal.first_failing-requires-clause-few
first_failing-requires-clause-few c = few_at _ _ _ _ _ _ c.len.ensures.small c.in_ok-env.ensures.1 c.node.ensures

pub first_failing-requires-clause-fits : goal.first_failing-requires-clause-fits
first_failing-requires-clause-fits c = rw (c.deref.ensures.value, c.in_ok-checks.ensures) (fits_at _ _ _ _ _ _ c.len.ensures.small c.in_ok-env.ensures.1 c.node.ensures)

pub first_failing-requires-clause-node : goal.first_failing-requires-clause-node
first_failing-requires-clause-node c = rw c.deref.ensures.value (given_here _ _ _ _ _ c.in_ok-checks.checks.items c.requires c.in_ok-env.ensures c.node.ensures c.in_ok-checks.ensures)

pub unreachable-requires : goal.unreachable-requires
unreachable-requires c = never_none _ c.len.ensures.over c.requires c.in_ok-env.ensures.1 ((rw c.in-None.is at c.in_ok-fault.ensures) c.in_ok-env.ensures.0 c.in_ok-env.ensures.1)

pub returns : goal.returns
returns c = blames (λ i. reverse (chain_at c.args.file.now.marks.scopes i)) _ _ _ _ c.in-Some.fault c.requires c.in_ok-env.ensures (rw c.in-Some.is at c.in_ok-fault.ensures)
