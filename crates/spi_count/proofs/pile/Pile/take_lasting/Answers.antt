use Rattle.std.proofs.Common.{◌-◌, ◌∙◌, ap}
use Rattle.spi_count.specs.Piles.{once, waits}
use Rattle.spi_count.specs.declared.sum.AtomKind.TheVariants.{Many}
use Rattle.spi_count.proofs.Waiting.{sum_taken, settled_same}
use Rattle.spi_count.proofs.pile.Pile.take_lasting.Goals as goal

pub returns : goal.returns
returns c l q =
    sum_taken Many c.args.key c.settle.new.self.sum c.take.new.self c.settle.new.self.late.items c.take.ensures (ap (λ ws. waits Many ws c.args.key) c.in_ok-settle.ensures.none) l q
    ∙ ap (λ n. n - once Many c.args.key l q) (settled_same l c.settle.new.self _ q (c.in_ok-settle.ensures.counted l q) c.in_ok-settle.ensures.none)
