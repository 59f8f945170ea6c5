use Rattle.spi_audit.specs.Notes.{noted_end}
use Rattle.spi_audit.proofs.noting.note_end.Goals as goal

pub returns-clause-note : goal.returns-clause-note
returns-clause-note c k = noted_end c.in_ok-id.ensures.at
