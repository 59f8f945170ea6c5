use Rattle.spi_spell.proofs.Canonical.{canonical_reads_back}
use Rattle.spi_spell.proofs.canonical_reads_back.Goals as goal

pub returns : goal.returns
returns c = canonical_reads_back
