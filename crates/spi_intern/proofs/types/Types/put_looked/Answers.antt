use Rattle.spi_intern.proofs.Tables.{is_put}
use Rattle.spi_intern.proofs.TyLaws.{kind_laws}
use Rattle.spi_intern.proofs.types.Types.put_looked.Goals as goal

pub invariant_of-self-2 : goal.invariant_of-self-2
invariant_of-self-2 c = (is_put kind_laws _ _ c.args.self.now c.args.node record { view = c.self.view_is; table = c.self.invariant; says = c.requires; keys = c.in_ok-place.ensures.keys }).table

pub returns : goal.returns
returns c = let p = is_put kind_laws _ _ c.args.self.now c.args.node record { view = c.self.view_is; table = c.self.invariant; says = c.requires; keys = c.in_ok-place.ensures.keys } in record { grows = p.grows; same = tt; at = p.at _ c.in_ok-place.ensures.stored; kept = p.kept; distinct = p.table.distinct }
