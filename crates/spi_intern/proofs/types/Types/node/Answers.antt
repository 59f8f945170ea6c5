use Rattle.spi_intern.specs.Kinds.{same_kind}
use Rattle.spi_intern.specs.Typed.{SaysKind, said_kind}
use Rattle.spi_intern.proofs.Tables.{says_some, says_none}
use Rattle.spi_intern.proofs.TyLaws.{kind_laws, node_eq}
use Rattle.spi_intern.proofs.types.Types.node.Goals as goal

pub returns-in-Some : goal.returns-in-Some
returns-in-Some c n at = says_some SaysKind said_kind same_kind node_eq kind_laws _ _ c.self.view_is c.self.invariant _ _ n c.in-Some.ensures.key at

pub returns-in-None : goal.returns-in-None
returns-in-None c n at = absurd (says_none SaysKind said_kind same_kind node_eq kind_laws _ _ c.self.view_is c.self.invariant _ n c.in-None.ensures.key at)
