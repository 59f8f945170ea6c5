use Rattle.spi_trace.proofs.Prefixes.{many_counted}
use Rattle.spi_trace.proofs.paid.is_many_paid.Goals as goal

pub returns-in-EndMany : goal.returns-in-EndMany
returns-in-EndMany c = rw c.in-EndMany.is (many_counted _ _ _ c.count_begins.ensures)
