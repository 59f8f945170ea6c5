use Rattle.std.proofs.Common.{take, length, ◌∷◌}
use Rattle.spi_narrate.proofs.Testing.{AreNewRoles}
use Rattle.spi_narrate.proofs.faultless.test_roles.Given as goal

abbrev pub invariant-loop-i : goal.invariant-loop-i
invariant-loop-i l = AreNewRoles (length (l.first ∷ l.more)) l.first (take l.i l.more)
