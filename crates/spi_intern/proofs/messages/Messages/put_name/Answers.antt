use Rattle.spi_term.specs.Term.{name}
use Rattle.spi_intern.proofs.Tables.{is_there}
use Rattle.spi_intern.proofs.MessageLaws.{part_laws}
use Rattle.spi_intern.proofs.messages.Messages.put_name.Goals as goal

pub returns-in-Some-clause-grows : goal.returns-in-Some-clause-grows
returns-in-Some-clause-grows c = is_there part_laws c.args.self.now c.in-Some.id.place (name c.args.x) c.in-Some.ensures.some
