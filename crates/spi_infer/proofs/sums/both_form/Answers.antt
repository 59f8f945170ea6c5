use Rattle.std.proofs.Common.{subst, sym, Some}
use Rattle.spi_term.specs.View.{shape_of_form}
use Rattle.spi_infer.specs.Accounts.{BothForm}
use Rattle.spi_infer.proofs.Formed.{par_form}
use Rattle.spi_infer.proofs.sums.both_form.Goals as goal

pub returns-in_ok-join-in-Par : goal.returns-in_ok-join-in-Par
returns-in_ok-join-in-Par c =
    subst (λ f. BothForm (shape_of_form c.args.node.now.scope f) c.args.a c.args.b.now (Some c.join.new.self)) (sym c.in-Par.is)
    (par_form c.args.node.now.scope c.in-Par.first c.in-Par.rest c.args.a c.args.b.now c.join.new.self c.in_ok-join-in-Par.ensures)
