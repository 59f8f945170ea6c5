use Rattle.std.proofs.Common.{rules}
use Rattle.spi_term.specs.View.{atom}
use Rattle.spi_term.proofs.Lookup.{search_cut}
use Rattle.spi_term.proofs.sorted.cut_of.Goals as goal

pub returns-clause-cut : goal.returns-clause-cut
returns-clause-cut c = search_cut (atom c.args.a.now) c.args.sorted.now c.partition_point.result c.requires c.partition_point.ensures.partitioned (λ a r f' k. search rules)
