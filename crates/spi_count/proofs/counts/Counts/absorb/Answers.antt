use Rattle.spi_count.specs.Counts.{count_of}
use Rattle.spi_count.proofs.Merging.{Left, starts, goes}
use Rattle.std.proofs.Common.{◌∙◌, subst, ◌+◌}
use Rattle.spi_count.proofs.counts.Counts.absorb.Goals as goal

pub loop-key-init : goal.loop-key-init
loop-key-init c = starts c.args.self.now.counts c.args.other.counts c.into_iter-key-iterator.result (c.into_iter-key-iterator.ensures.into_iter_gives ∙ c.iter-key-items.ensures.rest) c.args.other.positive c.iter-key-items.ensures.ordered c.iter-key-items.ensures.found

pub loop-key-preserved : goal.loop-key-preserved
loop-key-preserved c = goes c.in-Some.key.now c.in-Some.by.now c.next.new.self (count_of c.loop-key.self.counts) (count_of c.raise.new.self.counts) (λ q. count_of c.args.self.now.counts q + count_of c.args.other.counts q)
    (subst (λ es. Left es (count_of c.loop-key.self.counts) (λ q. count_of c.args.self.now.counts q + count_of c.args.other.counts q)) c.in-Some.ensures.steps c.loop-key.invariant) c.in_ok-raise.ensures
