use Rattle.std.proofs.Common.{ℕ, ◌<◌, take}
use Rattle.spi_count.specs.Piles.{waits}
use Rattle.spi_count.specs.declared.sum.AtomKind as Kinds
use Rattle.spi_count.proofs.pile.waits_from.Given as goal

abbrev pub invariant-loop-atom : goal.invariant-loop-atom
invariant-loop-atom l = (kind : Kinds.AtomKind) (k : ℕ) → 0 < waits kind (take l.atom-index l.late) k → k < l.least
