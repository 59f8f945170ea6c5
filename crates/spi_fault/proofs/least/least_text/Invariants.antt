use Rattle.std.proofs.Common.{◌-◌, ◌≤◌, length, map, take}
use Rattle.spi_term.specs.View.{atom}
use Rattle.spi_fault.specs.Trying.{IsOf, IsBest}
use Rattle.spi_fault.proofs.least.least_text.Given as goal

abbrev pub invariant-loop-i : goal.invariant-loop-i
invariant-loop-i l = record {
  within : l.i ≤ length l.atoms;
  best : IsBest l.names (IsOf l.kind) (map atom l.atoms) (take l.i (map atom l.atoms)) l.best;
}

abbrev pub decreases-loop-i : goal.decreases-loop-i
decreases-loop-i l = length l.atoms - l.i
