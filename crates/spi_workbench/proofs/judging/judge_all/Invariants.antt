use Rattle.std.proofs.Common.{◌≡◌, map, take, drop}
use Rattle.spi_edits.specs.Edits.{Bench}
use Rattle.spi_edits.specs.Views.{edit_of}
use Rattle.spi_workbench.specs.Work.{WorkStarts, StoodEdits}
use Rattle.spi_workbench.proofs.judging.judge_all.Given as goal

abbrev pub invariant-loop-i : goal.invariant-loop-i
invariant-loop-i g l =
    record {
      rest : drop l.i l.edits ≡ drop l.i l.initial.edits;
      stood : (b : Bench) → WorkStarts b l.initial.work l.initial.edits l.nodes → StoodEdits b (map edit_of (take l.i l.initial.edits)) l.work l.verdicts.items;
    }
