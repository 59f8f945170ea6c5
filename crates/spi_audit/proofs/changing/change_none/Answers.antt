use Rattle.spi_audit.proofs.Turning.{changes_empty}
use Rattle.spi_audit.proofs.changing.change_none.Goals as goal

pub returns : goal.returns
returns c s keys kd = changes_empty s keys c.args.stack.now.items c.push.new.self.items c.empty_account.result c.in_ok-push.ensures.items (λ n. c.empty_account.ensures s keys n kd)
