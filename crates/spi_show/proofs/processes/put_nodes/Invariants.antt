use Rattle.std.proofs.Common.{◌+◌, ◌-◌, ◌*◌, [], ◌++◌, length}
use Rattle.spi_term.specs.Spelling.{numbered, spelled}
use Rattle.spi_show.specs.Spells.{spelling}
use Rattle.spi_show.specs.Processes.{alone, process_text}
use Rattle.spi_show.specs.Pieces.{tops}
use Rattle.spi_show.proofs.Passing.{GoesThrough}
use Rattle.spi_show.proofs.processes.put_nodes.Given as goal

abbrev pub invariant-loop-x : goal.invariant-loop-x
invariant-loop-x l =
    GoesThrough (spelling l.spell) (spelled l.process.names l.process.process) (l.initial.out.items ++ process_text (spelling l.spell) alone l.process.names (numbered [] l.process.names l.process.process)) l.id (tops l.pending.items) l.out.items

abbrev pub decreases-loop-x : goal.decreases-loop-x
decreases-loop-x l = length l.pending.items + 4 * (length (spelled l.process.names l.process.process) - l.id)
