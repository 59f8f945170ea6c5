use Rattle.std.proofs.Common.{◌≤◌, ◌-◌, length, map, take}
use Rattle.spi_term.specs.Looking.{AllWithin}
use Rattle.spi_term.specs.View.{atom}
use Rattle.spi_term.proofs.count.is_within_by_chunks.Given as goal

abbrev pub invariant-loop-start : goal.invariant-loop-start
invariant-loop-start l = record {
  short : l.start ≤ length l.es;
  so_far : AllWithin (map atom (take l.start l.es)) (map atom l.es) (map atom l.fs);
}

abbrev pub decreases-loop-start : goal.decreases-loop-start
decreases-loop-start l = length l.es - l.start
