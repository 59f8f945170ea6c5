use Rattle.spi_audit.specs.Notes.{noted_begin}
use Rattle.spi_audit.proofs.noting.note_begin.Goals as goal

pub returns-clause-note : goal.returns-clause-note
returns-clause-note c keys k = noted_begin c.in_ok-id.ensures.at
