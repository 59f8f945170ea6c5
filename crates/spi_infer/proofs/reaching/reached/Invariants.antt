use Rattle.std.proofs.Common.{◌-◌}
use Rattle.spi_rules.specs.Environment.{untrusted}
use Rattle.spi_infer.proofs.Descending.{Toward}
use Rattle.spi_infer.proofs.reaching.reached.Given as goal

abbrev pub invariant-loop-id : goal.invariant-loop-id
invariant-loop-id l = Toward (untrusted l.process.names) l.process.process l.node l.id l.env

abbrev pub decreases-loop-id : goal.decreases-loop-id
decreases-loop-id l = l.node - l.id
