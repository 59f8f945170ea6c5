use Rattle.std.proofs.Common.{ap}
use Rattle.spi_origin.proofs.Paid.{check_then, check_else}
use Rattle.spi_origin.proofs.adding.adds.Goals as goal
use Rattle.spi_term.specs.View.{message, atom, shape_of, shape_of_form}

pub returns-then-is_paid : goal.returns-then-is_paid
returns-then-is_paid c s keys paid h =
    check_then s keys c.args.node.now.scope (message c.in-Check.whole) (message c.in-Check.nonce) c.in-Check.body (shape_of c.args.node.now) (ap (shape_of_form c.args.node.now.scope) c.in-Check.is) paid c.args.own (atom c.args.a.now) c.is_paid.result c.is_paid.ensures h c.if-is_paid.true c.is_check.result c.is_check.ensures

pub returns-else-is_paid : goal.returns-else-is_paid
returns-else-is_paid c s keys paid h =
    check_else s keys c.args.node.now.scope (message c.in-Check.whole) (message c.in-Check.nonce) c.in-Check.body (shape_of c.args.node.now) (ap (shape_of_form c.args.node.now.scope) c.in-Check.is) paid c.args.own (atom c.args.a.now) c.is_paid.result c.is_paid.ensures h c.if-is_paid.false
