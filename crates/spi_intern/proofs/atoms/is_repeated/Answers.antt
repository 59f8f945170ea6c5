use Rattle.std.proofs.Common.{sym}
use Rattle.spi_intern.proofs.Sorting.{repeats_none}
use Rattle.spi_intern.proofs.atoms.is_repeated.Goals as goal

pub returns-in-None : goal.returns-in-None
returns-in-None c = sym (repeats_none _ _ c.in-None.ensures.lookup.3)
