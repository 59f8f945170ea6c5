use Rattle.std.proofs.Common.{◌≤◌, List, length}
use Rattle.spi_audit.specs.Changes.{Change}
use Rattle.spi_audit.specs.Notes.{AreNoted, AreSmallNotes}
use Rattle.spi_audit.proofs.Passing.{Passed}
use Rattle.spi_audit.proofs.changing.account.Given as goal

abbrev pub invariant-loop-note : goal.invariant-loop-note
invariant-loop-note l = record {
  short : length l.rest.items ≤ length l.fn.notes.items;
  small : AreSmallNotes l.rest.items;
  passed : (cs : List Change) → AreNoted l.store l.keys cs l.fn.notes.items → Passed l.store l.keys cs l.rest.items l.stack.items l.unpaid;
}

abbrev pub decreases-loop-note : goal.decreases-loop-note
decreases-loop-note l = length l.rest.items
