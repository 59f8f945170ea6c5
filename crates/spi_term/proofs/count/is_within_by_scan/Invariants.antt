use Rattle.std.proofs.Common.{◌≡◌, map, drop}
use Rattle.spi_term.specs.View.{atom}
use Rattle.spi_term.specs.Tests.{each_within}
use Rattle.spi_term.proofs.count.is_within_by_scan.Given as goal

abbrev pub invariant-loop-a : goal.invariant-loop-a
invariant-loop-a l = each_within (map atom l.es) (map atom l.es) (map atom l.fs) ≡ each_within (map atom (drop l.a-index l.es)) (map atom l.es) (map atom l.fs)
