use Rattle.std.proofs.Common.{sym, ◌∙◌}
use Rattle.spi_intern.proofs.Tables.{is_noted}
use Rattle.spi_intern.proofs.TyLaws.{kind_laws, node_true}
use Rattle.spi_intern.proofs.types.Types.noted.Goals as goal

pub returns-then-eq-clause-some : goal.returns-then-eq-clause-some
returns-then-eq-clause-some c =
    is_noted kind_laws c.self.inside.nodes.keys c.args.self.now c.in_ok-place.place c.args.node c.in_ok-known.known.now c.self.view_is c.self.invariant (sym c.in_ok-known.ensures.key) (node_true c.in_ok-known.known.now c.args.node (sym c.eq.ensures ∙ c.if-eq.true))
