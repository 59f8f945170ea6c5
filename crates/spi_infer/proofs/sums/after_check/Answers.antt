use Rattle.std.proofs.Common.{subst, sym, Some}
use Rattle.spi_infer.specs.Accounts.{AfterCheck}
use Rattle.spi_infer.proofs.Formed.{check_some}
use Rattle.spi_infer.proofs.sums.after_check.Goals as goal

pub returns-in_ok-put_atom-in-Some : goal.returns-in_ok-put_atom-in-Some
returns-in_ok-put_atom-in-Some c =
    subst (λ o. AfterCheck c.args.store.now c.args.keys.now c.args.m o c.args.pile.now (Some c.put_atom.new.pile)) (sym c.in-Some.is)
    (check_some c.args.store.now c.args.keys.now c.args.m c.in-Some.t c.args.pile.now c.drop_type.new.pile c.put_atom.new.pile c.in_ok-drop_type-in-Some.ensures c.in_ok-put_atom-in-Some.ensures)
