use Rattle.spi_audit.specs.Notes.{noted_many}
use Rattle.spi_audit.proofs.noting.note_end_many.Goals as goal

pub returns-clause-note : goal.returns-clause-note
returns-clause-note c k = noted_many c.in_ok-id.ensures.at
