use Rattle.spi_spell.proofs.Canonical.{tree_reads_back}
use Rattle.spi_spell.proofs.printed_trees_read_back.Goals as goal

pub returns : goal.returns
returns c = tree_reads_back
