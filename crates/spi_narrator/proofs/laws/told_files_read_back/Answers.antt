use Rattle.spi_narrator.proofs.Reading.{reads_back}
use Rattle.spi_narrator.proofs.laws.told_files_read_back.Goals as goal

pub returns : goal.returns
returns c = reads_back
