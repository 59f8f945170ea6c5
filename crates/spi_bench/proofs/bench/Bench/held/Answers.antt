use Rattle.std.proofs.Common.{sym, ap, ◌∙◌}
use Rattle.spi_bench.specs.Parts.{Benched, nodes_in_parts}
use Rattle.spi_bench.specs.Sums.{shared_in}
use Rattle.spi_bench.proofs.Totals.{nodes_total}
use Rattle.spi_bench.proofs.bench.Bench.held.Goals as goal

pub returns : goal.returns
returns c =
    let t = c.self.inside.table in
    c.nodes.ensures ∙ sym (nodes_total t.sums.free (shared_in t.sums) t.slots.items) ∙ ap (λ (b : Benched). nodes_in_parts b.parts) c.self.view_is
