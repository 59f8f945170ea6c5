use Rattle.std.proofs.Common.{◌≡◌, drop}
use Rattle.spi_weave.specs.Woven.{last_span}
use Rattle.spi_weave.proofs.roles.last_span.Given as goal

abbrev pub invariant-loop-role : goal.invariant-loop-role
invariant-loop-role l = last_span l.span (drop l.role-index l.more) ≡ last_span l.fn.first l.more
