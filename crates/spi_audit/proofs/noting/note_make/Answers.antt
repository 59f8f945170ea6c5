use Rattle.spi_audit.specs.Notes.{noted_make}
use Rattle.spi_audit.proofs.noting.note_make.Goals as goal

pub returns-clause-note : goal.returns-clause-note
returns-clause-note c keys = noted_make c.in_ok-id.ensures.at
