use Rattle.spi_bench.proofs.Judged.{judged_with}
use Rattle.spi_bench.proofs.bench.Bench.drop_part.Goals as goal

pub invariant_of-self : goal.invariant_of-self
invariant_of-self c =
    let i = c.self.invariant in
    judged_with i i.stands c.drop_from.ensures.free c.drop_from.ensures.shared c.drop_from.ensures.dropped.places (c.drop_from.ensures.dropped.inferred _ _ i.inferred)
