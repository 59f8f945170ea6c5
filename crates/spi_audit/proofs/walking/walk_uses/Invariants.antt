use Rattle.std.proofs.Common.{◌≡◌, drop, length, take}
use Rattle.spi_term.specs.Spelling.{spelled}
use Rattle.spi_rules.specs.Environment.{untrusted}
use Rattle.spi_rules.specs.Deriv.{rule_uses}
use Rattle.spi_audit.specs.Fits.{of_process}
use Rattle.spi_count.specs.Keeping.{AreKept}
use Rattle.spi_audit.specs.Notes.{AreSmallNotes}
use Rattle.spi_audit.specs.Walking.{IsLed}
use Rattle.spi_audit.proofs.walking.walk_uses.Given as goal

abbrev pub invariant-loop-i : goal.invariant-loop-i
invariant-loop-i l = record {
  led : IsLed l.judge l.keys (spelled l.process.names l.process.process) (of_process (untrusted l.process.names) l.process.process) (take l.i (rule_uses l.d)) (drop l.i (rule_uses l.d)) l.asked.items l.notes.items;
  kept : AreKept l.judge.store l.keys;
  small : AreSmallNotes l.notes.items;
  count : length l.notes.items ≡ l.i;
}
