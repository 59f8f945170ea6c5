use Rattle.spi_intern.specs.Atoms.{says_end, says_check, says_many}
use Rattle.spi_intern.proofs.Grown.{interned_adds}
use Rattle.spi_intern.proofs.atoms.atom_id.Goals as goal

pub returns-in_ok-id-in-End-clause-at : goal.returns-in_ok-id-in-End-clause-at
returns-in_ok-id-in-End-clause-at c = rw c.in-End.is (says_end c.in_ok-id-in-End.ensures.at)

pub returns-in_ok-id-in-Check-clause-at : goal.returns-in_ok-id-in-Check-clause-at
returns-in_ok-id-in-Check-clause-at c = rw c.in-Check.is (says_check c.in_ok-id-in-Check.ensures.at)

pub returns-in_ok-id-in-Many-clause-at : goal.returns-in_ok-id-in-Many-clause-at
returns-in_ok-id-in-Many-clause-at c = rw c.in-Many.is (says_many c.in_ok-id-in-Many.ensures.at)

pub returns-in_ok-id-in-End-clause-grows : goal.returns-in_ok-id-in-End-clause-grows
returns-in_ok-id-in-End-clause-grows c = rw c.in-End.is (interned_adds _ _ _ c.in_ok-id-in-End.ensures.grows)

pub returns-in_ok-id-in-Check-clause-grows : goal.returns-in_ok-id-in-Check-clause-grows
returns-in_ok-id-in-Check-clause-grows c = rw c.in-Check.is (interned_adds _ _ _ c.in_ok-id-in-Check.ensures.grows)

pub returns-in_ok-id-in-Many-clause-grows : goal.returns-in_ok-id-in-Many-clause-grows
returns-in_ok-id-in-Many-clause-grows c = rw c.in-Many.is (interned_adds _ _ _ c.in_ok-id-in-Many.ensures.grows)
