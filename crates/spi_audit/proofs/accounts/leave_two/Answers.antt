use Rattle.std.proofs.Common.{subst, sym, ap, ◌∙◌, Bool, ◌&&◌, ◌+◌, arith}
use Rattle.std.specs.Prelude.{nat_eq}
use Rattle.spi_audit.specs.Accounts.{LeavesTwo}
use Rattle.spi_audit.proofs.Loosening.{left_two}
use Rattle.spi_audit.proofs.accounts.leave_two.Goals as goal

pub returns : goal.returns
returns c =
    subst (λ (b : Bool). LeavesTwo c.args.store.now c.args.keys.now c.args.scope c.args.account.now b c.cut.new.account) (sym (c.is_free_of-2.ensures ∙ ap (λ b. b && nat_eq c.count-second.result 0) c.is_free_of.ensures))
    (left_two c.args.scope c.args.account.now c.cut.new.account c.in_ok-inside.inside c.count-first.result c.count-second.result (c.args.scope + 1) (omega arith) c.count-first.ensures c.count-second.ensures c.in_ok-inside.ensures)
