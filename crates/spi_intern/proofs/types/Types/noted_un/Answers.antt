use Rattle.std.proofs.Common.{sym}
use Rattle.spi_intern.specs.declared.types.TyNode.TheVariants.{Un}
use Rattle.spi_intern.proofs.Tables.{is_noted}
use Rattle.spi_intern.proofs.TyLaws.{kind_laws}
use Rattle.spi_intern.proofs.types.Types.noted_un.Goals as goal

pub returns-then-is_un-clause-some : goal.returns-then-is_un-clause-some
returns-then-is_un-clause-some c =
    is_noted kind_laws c.self.inside.nodes.keys c.args.self.now c.self.inside.un Un c.in_ok-node.node.now c.self.view_is c.self.invariant (sym c.in_ok-node.ensures.key) (c.is_un.ensures c.if-is_un.true)
