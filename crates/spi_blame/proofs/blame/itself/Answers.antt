use Rattle.std.proofs.Common.{ap, reverse}
use Rattle.spi_blame.proofs.Telling.{told_itself}
use Rattle.spi_blame.proofs.blame.itself.Goals as goal

pub returns : goal.returns
returns c = λ env n. told_itself n (ap reverse c.new.ensures.items) (cc (c.in_ok-copy.ensures, c.in_ok-copy-2.ensures))
