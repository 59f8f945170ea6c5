use Rattle.std.proofs.Common.{take, length, map, ◌∷◌}
use Rattle.spi_narrate.specs.Faults.{line_items, IsFaultless}
use Rattle.spi_narrate.specs.Views.{line_of}
use Rattle.spi_narrate.proofs.faultless.test_lines.Given as goal

abbrev pub invariant-loop-i : goal.invariant-loop-i
invariant-loop-i l = IsFaultless (line_items 0 (length l.lines) (l.first ∷ l.more) (map line_of (take l.i l.lines)))
