use Rattle.std.proofs.Common.{map, take}
use Rattle.spi_term.specs.View.{atom, pointed}
use Rattle.spi_effect.specs.Effect.{IsDifference}
use Rattle.spi_effect.specs.Rest.{IsOwed}
use Rattle.spi_effect.proofs.sums.rest_of.Given as goal

abbrev pub invariant-loop-x : goal.invariant-loop-x
invariant-loop-x l = record {
  owed : IsOwed (pointed l.sorted) (map atom (take l.x-index l.es)) (map atom l.fs) l.left;
  so_far : IsDifference (map atom l.atoms.items) (map atom (take l.x-index l.es)) (map atom l.fs);
}
