use Rattle.spi_edits.proofs.OneBench.{one_spelled}
use Rattle.spi_edits.proofs.laws.one_bench.Goals as goal

pub returns : goal.returns
returns c = λ b d ts hb hd. one_spelled b d ts hb hd
