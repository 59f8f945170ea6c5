use Rattle.spi_audit.specs.Accounts.{outer}
use Rattle.spi_audit.proofs.Holding.{held_none}
use Rattle.spi_audit.proofs.accounts.empty_account.Goals as goal

pub returns : goal.returns
returns c s keys n kd = held_none kd (outer n) c.new.result c.new-2.result.counts c.new.ensures c.new-2.ensures
