use Rattle.spi_honest.specs.Progress.{AreRolePlaces}
use Rattle.spi_honest.proofs.roles.first_places.Given as goal

abbrev pub invariant-loop-i : goal.invariant-loop-i
invariant-loop-i l = AreRolePlaces l.i l.places.items
