use Rattle.std.proofs.Common.{length}
use Rattle.spi_weave.proofs.roles.+roles_beside.Given as goal

abbrev pub decreases-roles_beside : goal.decreases-roles_beside
decreases-roles_beside l = length l.more.now
