use Rattle.spi_intern.proofs.Tables.{is_put}
use Rattle.spi_intern.proofs.MessageLaws.{part_laws}
use Rattle.spi_intern.proofs.messages.Messages.put_looked.Goals as goal

pub invariant_of-self-2 : goal.invariant_of-self-2
invariant_of-self-2 c = (is_put part_laws _ _ c.args.self.now c.args.part record { view = c.self.view_is; table = c.self.invariant; says = c.requires; keys = c.in_ok-place.ensures.keys }).table

pub returns : goal.returns
returns c = let p = is_put part_laws _ _ c.args.self.now c.args.part record { view = c.self.view_is; table = c.self.invariant; says = c.requires; keys = c.in_ok-place.ensures.keys } in record { grows = p.grows; same = tt; at = p.at _ c.in_ok-place.ensures.stored; kept = p.kept; distinct = p.table.distinct }
