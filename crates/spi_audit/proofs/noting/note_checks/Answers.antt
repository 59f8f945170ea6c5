use Rattle.spi_term.specs.View.{message}
use Rattle.spi_message.proofs.Tested.{kept_same}
use Rattle.spi_count.proofs.Kept.{grows_same}
use Rattle.spi_audit.proofs.NoteChanges.{same_noted}
use Rattle.spi_audit.proofs.noting.note_checks.Goals as goal

pub returns-in_default : goal.returns-in_default
returns-in_default c = record {
  note = same_noted c.args.judge.now c.args.judge.now.store c.args.keys.now c.args.rule (message c.args.m.now) (message c.args.nonce.now) c.in_default.not-ProcCheck;
  grows = grows_same c.args.judge.now.store c.args.keys.now c.requires.keys;
  kept = kept_same c.args.judge.now;
}
