use Rattle.std.proofs.Common.{sym}
use Rattle.spi_intern.specs.declared.messages.MsgPart.TheVariants.{Name}
use Rattle.spi_intern.proofs.Tables.{is_noted}
use Rattle.spi_intern.proofs.MessageLaws.{part_laws}
use Rattle.spi_intern.proofs.messages.Messages.noted.Goals as goal

pub returns-then-is_name-clause-some : goal.returns-then-is_name-clause-some
returns-then-is_name-clause-some c =
    is_noted part_laws c.self.inside.parts.keys c.args.self.now c.in_ok-place.field-0.now (Name c.args.x) c.in_ok-part.part.now c.self.view_is c.self.invariant (sym c.in_ok-part.ensures.key) (c.is_name.ensures c.if-is_name.true)
