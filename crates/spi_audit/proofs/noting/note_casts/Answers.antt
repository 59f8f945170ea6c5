use Rattle.spi_term.specs.View.{ty}
use Rattle.spi_audit.proofs.NoteChanges.{one_noted, other_cast}
use Rattle.spi_audit.proofs.noting.note_casts.Goals as goal

pub returns-in_default-clause-note : goal.returns-in_default-clause-note
returns-in_default-clause-note c = one_noted c.args.judge.now.store c.args.keys.now c.args.scope (other_cast c.args.rule c.args.scope (ty c.args.t.now) c.in_default.not-ProcCast)
