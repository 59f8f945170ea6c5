use Rattle.std.proofs.Common.{subst, sym, Bool}
use Rattle.spi_audit.specs.Accounts.{LeavesOne}
use Rattle.spi_audit.proofs.Loosening.{left_one}
use Rattle.spi_audit.proofs.accounts.leave_one.Goals as goal

pub returns : goal.returns
returns c =
    subst (λ (b : Bool). LeavesOne c.args.store.now c.args.keys.now c.args.scope c.args.account.now b c.cut.new.account) (sym c.is_free_of.ensures)
    (left_one c.args.scope c.args.account.now c.cut.new.account c.in_ok-inside.inside c.count-loose.result c.count-loose.ensures c.in_ok-inside.ensures)
