use Rattle.spi_count.specs.Counts.{count_of}
use Rattle.spi_count.specs.Sums.{part}
use Rattle.spi_count.proofs.Waiting.{added}
use Rattle.spi_count.proofs.pile.Pile.add.Goals as goal

pub returns : goal.returns
returns c l q = added l (count_of (part l c.args.self.now.sum) q) c.args.self.now.late.items c.push.new.self.items _ q c.in_ok-push.ensures.items
