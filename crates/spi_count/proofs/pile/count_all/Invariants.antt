use Rattle.std.proofs.Common.{◌≡◌, ℕ, take}
use Rattle.spi_count.specs.Counts.{count_of}
use Rattle.spi_count.specs.Sums.{part, both_counts}
use Rattle.spi_count.specs.Piles.{waits}
use Rattle.spi_count.specs.declared.sum.AtomKind as Kinds
use Rattle.spi_count.proofs.pile.count_all.Given as goal

abbrev pub invariant-loop-atom : goal.invariant-loop-atom
invariant-loop-atom l = (kind : Kinds.AtomKind) (k : ℕ) → count_of (part kind l.sum) k ≡ both_counts kind (count_of (part kind l.fn.sum) k) (waits kind (take l.atom-index l.late) k)
