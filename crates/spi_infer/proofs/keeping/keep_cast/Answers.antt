use Rattle.spi_infer.proofs.Kept.{none_cast}
use Rattle.spi_infer.proofs.keeping.keep_cast.Goals as goal

pub returns-in_default-clause-at : goal.returns-in_default-clause-at
returns-in_default-clause-at c = none_cast c.args.judge.now.store c.args.keys.now c.args.t.now c.in_default.not-Nonce
