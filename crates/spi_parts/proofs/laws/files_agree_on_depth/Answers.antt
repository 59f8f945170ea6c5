use Rattle.spi_parts.proofs.Whole.{files_agree}
use Rattle.spi_parts.proofs.laws.files_agree_on_depth.Goals as goal

pub returns : goal.returns
returns c = files_agree
