use Rattle.spi_intern.specs.Messages.{said}
use Rattle.spi_intern.proofs.Tables.{is_there}
use Rattle.spi_intern.proofs.MessageLaws.{part_laws}
use Rattle.spi_intern.proofs.messages.Messages.put_part.Goals as goal

pub returns-in-Some-clause-grows : goal.returns-in-Some-clause-grows
returns-in-Some-clause-grows c = is_there part_laws c.args.self.now c.in-Some.id.place (said c.args.self.now c.args.part) c.in-Some.ensures.some
