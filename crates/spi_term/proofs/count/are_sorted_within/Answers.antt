use Rattle.std.proofs.Common.{map}
use Rattle.spi_term.specs.View.{atom, pointed}
use Rattle.spi_term.proofs.Chunks.{sorted_told}
use Rattle.spi_term.proofs.count.are_sorted_within.Goals as goal

pub returns : goal.returns
returns c =
    let t = sorted_told (pointed c.args.sorted.now) (map atom c.args.es.now) (map atom c.args.fs.now) c.tally_each.new.counts c.tally_each-2.new.counts c.tally_each.ensures c.tally_each-2.ensures in
    (λ h. t.0 (c.are_fewer.ensures.0 h), λ w. c.are_fewer.ensures.1 (t.1 w))
