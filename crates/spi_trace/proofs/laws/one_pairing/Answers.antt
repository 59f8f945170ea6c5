use Rattle.spi_trace.proofs.Pairs.{pairs_one}
use Rattle.spi_trace.proofs.laws.one_pairing.Goals as goal

pub returns : goal.returns
returns c = λ events is js p q. pairs_one p q
